-- Nodes of a list that pass a test: all of them, or the first that does not.
use Rattle.std.specs.Prelude.{◌≡◌, Bool, true, false, ℕ}
use mathlib.Core.List.{List, ◌∷◌, ◌++◌, Memᴰ}

-- every node of the list passes
pub record AllPass (test : ℕ → Bool) (ns : List ℕ) : Type 0 where
  pub each : (n : ℕ) → Memᴰ n ns → test n ≡ true

-- n is in the list, does not pass, and all before it do
pub record First (test : ℕ → Bool) (ns : List ℕ) (n : ℕ) : Type 0 where
  pub front : List ℕ
  pub rest : List ℕ
  pub split : ns ≡ front ++ n ∷ rest
  pub passing : AllPass test front
  pub fails : test n ≡ false
