-- Boards that places open, and how many places there are. Assumes nothing.
use Rattle.std.proofs.Common.{◌≡◌, ℕ, ◌+◌, ◌<◌, ◌≤◌, min, ◌≢◌, List, map, length, get_or, take, drop, set, ℤ, sym, refl, ap, ◌∙◌, subst, ⊎_elim, arith, length-set, length-take}
use Rattle.std.proofs.lemmas.List.{length-map, get_or-take, get_or-set_same, get_or-set_other, drop-set-lt, drop_all, take_all, drop-drop}
use Rattle.std.proofs.lemmas.Bool.{cases_eq, cases_lt}
use Rattle.spans.specs.Kind.{Kind}
use Rattle.books.specs.Boards.{span_at}
use Rattle.sheets.specs.declared.title.SpanKind.{SpanKind}
use Rattle.records.specs.declared.places.PlaceRow.{PlaceRow}
use Rattle.records.specs.Places.{Place, place_shown}
use Rattle.records.specs.RuleLines.{opens}
use Rattle.readings.specs.Books.{Opened}

pub places_counted : (rows : List PlaceRow) → length (take 254 (map place_shown rows)) ≡ min (length rows) 254
places_counted rows = omega (arith, length-take 254 (map place_shown rows), length-map rows place_shown)

module _ {S : Type 0} (kind : Kind S) (sheets : SpanKind) (ps : List Place) (before : List S) where
  pub opened_none : Opened kind sheets (take 0 ps) before before
  opened_none = record { long = refl; spans = λ p d x h l. absurd (omega arith); rest = refl }

  -- one place more
  pub opened_more : (i : ℕ) (board : List S) (span : S) → i < length ps → i < length board → Opened kind sheets (take i ps) before board
      → ((d : Place) (x : ℤ) → kind.admits span x ≡ opens sheets (get_or ps i d).opening x) → Opened kind sheets (take (i + 1) ps) before (set board i span)
  opened_more i board span h l o new =
      let m = length-take i ps in
      let n = length-take (i + 1) ps in
      let s = length-set board i span in
      record {
        long = s ∙ o.long;
        spans = λ p d x k j. ⊎_elim (here p d x) (λ ne. other p d x ne (omega arith) (omega arith)) (cases_eq p i);
        rest =
            ap (λ a. drop a (set board i span)) (let e : length (take (i + 1) ps) ≡ i + 1 = omega arith in e)
            ∙ drop-set-lt (i + 1) board i span (omega arith)
            ∙ sym (drop-drop 1 i board)
            ∙ ap (drop 1) (ap (λ a. drop a board) (let e : i ≡ length (take i ps) = omega arith in e) ∙ o.rest ∙ ap (λ a. drop a before) (let e : length (take i ps) ≡ i = omega arith in e))
            ∙ drop-drop 1 i before
            ∙ ap (λ a. drop a before) (let e : i + 1 ≡ length (take (i + 1) ps) = omega arith in e);
      }
    where
      here : (p : ℕ) (d : Place) (x : ℤ) → p ≡ i → kind.admits (span_at kind (set board i span) p) x ≡ opens sheets (get_or (take (i + 1) ps) p d).opening x
      here p d x e =
          ap (λ q. kind.admits (span_at kind (set board i span) q) x) e
          ∙ ap (λ a. kind.admits a x) (get_or-set_same board i span kind.none l)
          ∙ new d x
          ∙ ap (λ (q : Place). opens sheets q.opening x) (sym (get_or-take (i + 1) ps i d (omega arith)))
          ∙ ap (λ q. opens sheets (get_or (take (i + 1) ps) q d).opening x) (sym e)

      other : (p : ℕ) (d : Place) (x : ℤ) → p ≢ i → p < i + 1 → p < length board → kind.admits (span_at kind (set board i span) p) x ≡ opens sheets (get_or (take (i + 1) ps) p d).opening x
      other p d x ne k j =
          let m = length-take i ps in
          let q : p < i = omega arith in
          ap (λ a. kind.admits a x) (get_or-set_other board i p span kind.none ne)
          ∙ o.spans p d x (omega arith) j
          ∙ ap (λ (r : Place). opens sheets r.opening x) (get_or-take i ps p d q ∙ sym (get_or-take (i + 1) ps p d k))

  -- all places, or as many as the board has
  pub opened_all : (i : ℕ) (board : List S) → i ≡ min (length ps) (length before) → Opened kind sheets (take i ps) before board → Opened kind sheets ps before board
  opened_all i board e o = ⊎_elim short long (cases_lt (length before) (length ps))
    where
      long : length ps ≤ length before → Opened kind sheets ps before board
      long h = subst (λ qs. Opened kind sheets qs before board) (take_all i ps (omega arith)) o

      short : length before < length ps → Opened kind sheets ps before board
      short h =
          let m = length-take i ps in
          record {
            long = o.long;
            spans = λ p d x k l. o.spans p d x (omega (arith, o.long)) l ∙ ap (λ (r : Place). opens sheets r.opening x) (get_or-take i ps p d (omega (arith, o.long)));
            rest = drop_all (length ps) board (omega (arith, o.long)) ∙ sym (drop_all (length ps) before (omega arith));
          }
