-- `write_numbers::decimals::put_word` meets its contract: a copy of the word in the middle of the list is the list with the word put there.
use mathlib.Core.Path.{◌≡◌, refl, sym, ap, ◌∙◌}
use mathlib.Core.List.{List, ◌++◌, append_assoc}
use Prim.Native.Nat.{ℕ, ◌+◌, ◌-◌, ◌≤◌}
use native.Mathlib.Omega.{arith}
use lib.ListN.{length, take, drop}
use lib.Seq.{sets, sets-eq}
use borrow.Rule.Slice.PartMut.{put_mid, Post-is}
use Rattle.write_numbers.proofs.decimals.put_word.Goals as goal

copied : (d w ys : List ℕ) (i : ℕ) → i + length w ≤ length d → ys ≡ w → put_mid i (i + length w - i) d ys ≡ sets d i w
copied d w ys i h e =
    ap (put_mid i (i + length w - i) d) e ∙ ap (λ (rest : List ℕ). take i d ++ (w ++ rest)) (Post-is i (i + length w) d (omega arith))
    ∙ sym (append_assoc (take i d) w (drop (i + length w) d)) ∙ sym (sets-eq w d i h)

pub returns : goal.returns
returns c = record { list = copied c.args.out.now c.args.word.now _ c.args.at c.requires c.copy_from_slice.ensures.after; next = refl }
