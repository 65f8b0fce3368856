-- What a book of rows counts. Assumes nothing.
use Rattle.std.specs.Prelude.{ℕ, min, max}

-- how many places a book counts that is asked for so many: 1 to 254
abbrev pub place_count : ℕ → ℕ
place_count places = min (max places 1) 254

-- how many rules a book counts that has so many rows: at most 1,000
abbrev pub rule_count : ℕ → ℕ
rule_count rows = min rows 1000
