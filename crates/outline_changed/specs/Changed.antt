-- The changed outline (document 02, request 12).
use Rattle.std.specs.Prelude.{List, ◌++◌, ℕ, suc, take, drop, ℤ}
use Rattle.outline.specs.Curves.{next_at}
use Rattle.outline.specs.Places.{place_of}

-- the numbers of curve k give way to a degree and its points; what `new` has past these is unread
abbrev pub changed : List ℤ → (k : ℕ) → (new : List ℤ) → List ℤ
changed ns k new = take (place_of ns 0 k) ns ++ (take (next_at new 0) new ++ drop (place_of ns 0 (suc k)) ns)
