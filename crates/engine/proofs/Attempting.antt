-- What a try on the working board comes to. Assumes nothing.
use Rattle.std.proofs.Common.{◌≡◌, ℕ, ◌≤◌, List, length, sym, ap}
use Rattle.spans.specs.Kind.{Kind}
use Rattle.books.specs.Boards.{Full}
use Rattle.books.specs.Meaning.{Meaning, Lawful}
use Rattle.books.specs.Sweeps.{settle}
use Rattle.engine.specs.declared.refusal.Refusal.TheVariants.{Emptied}
use Rattle.engine.specs.Calls.{denied, allowed, judged}
use Rattle.engine.specs.Skims.{halted, onward, skimmed}
use Rattle.engine.proofs.Passing.{settled_by, emptied_by}

module _ {S : Type 0} (kind : Kind S) (book : Meaning S) (law : Lawful kind book) (b : List S) (w : List ℕ) (full : Full kind book.places b) (long : book.rules ≤ length w) where
  pub tried_granted : (after : List S) (v : List ℕ) (s : ℕ) → onward after v s ≡ skimmed kind book b w → judged (settle kind book b) ≡ allowed after s
  tried_granted after v s e = ap judged (settled_by kind book law b w after v s full long (sym e)).0

  pub tried_refused : (p r : ℕ) → halted p r ≡ skimmed kind book b w → judged (settle kind book b) ≡ denied (Emptied p r)
  tried_refused p r e = ap judged (emptied_by kind book law b w p r full long (sym e))
