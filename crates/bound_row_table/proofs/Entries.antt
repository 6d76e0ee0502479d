-- Where an entry of a row stands in the table, how large it is, and m times it in 64 bits.
use mathlib.Core.Path.{◌≡◌}
use mathlib.Core.List.{List}
use mathlib.Core.Logic.{⊎_elim}
use Prim.Native.Nat.{ℕ, ◌+◌, ◌≤◌, ◌<◌, zero-le, suc-le-suc}
use lib.Dec.{T, leb, leb→le}
use lib.ListN.{length, get_or-eq_default}
use lib.Seq.{get_or-take, get_or-drop}
use lib.IntN.{ℤ, pos, nat_abs}
use Rattle.integers.specs.Entry.{entry}
use Rattle.integers.proofs.Order.{lt_or_ge}
use Rattle.integers.proofs.Size.{Size}
use Rattle.integers.proofs.Machine.{Count, machine}
use Rattle.integers.proofs.Table.{every_below, below, every, at}
use Rattle.bound_rows.specs.Table.{table, entries_at}

pub entries_entry : (at n i : ℕ) → i < n → entry (entries_at at n) i ≡ entry table (at + i)
entries_entry at n i h = rw (get_or-take, get_or-drop)

-- ---- sizes: those of degrees 2 and 3, which stand before place 264, are smaller
table_small : T (every (λ k z. leb (nat_abs z) 9000) 0 table)
unfolding table
table_small = tt

pub table_entry_small : (k : ℕ) → nat_abs (entry table k) ≤ 9000
table_entry_small k = ⊎_elim
    (λ l. leb→le (nat_abs (entry table k)) 9000 (at (λ k z. leb (nat_abs z) 9000) table (pos 0) table_small k l))
    (λ l. rw (get_or-eq_default table (pos 0) {n = k} l) zero-le)
    (lt_or_ge k (length table))

first_small : T (every_below 264 (λ k. leb (nat_abs (entry table k)) 5000))
unfolding table
first_small = tt

pub first_entry_small : (k : ℕ) → k < 264 → nat_abs (entry table k) ≤ 5000
first_entry_small k h = leb→le (nat_abs (entry table k)) 5000 (below 264 (λ k. leb (nat_abs (entry table k)) 5000) first_small k h)

-- ---- m times an entry of a list that is the table: `search products` reads it
abbrev pub pieces_count : {m : ℕ} → m ≤ 8 → Count m
pieces_count h = record { bound = 9; under = suc-le-suc h }

abbrev pub entry_size : {t : List ℤ} → t ≡ table → (k : ℕ) → Size (entry t k)
entry_size e k = record { bound = 9000; under = rw e (table_entry_small k) }

pub ruleset products = (machine, pieces_count, entry_size)
