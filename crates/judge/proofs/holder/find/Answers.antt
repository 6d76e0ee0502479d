-- `judge::holder::find` meets its contract: a search as far as the list goes.
use native.Mathlib.Nat.{le_refl}
use mir.Facts.{to_z-of_z}
use lib.ListN.{length}
use lib.IntN.{ℤ}
use mathlib.Core.List.{List}
use mathlib.Core.Option.{none}
use Rattle.std.specs.Prelude.{Option as Maybe, Some, None, Ok}
use Rattle.setting.specs.Setting.{Setting, lists}
use Rattle.judge.specs.declared.judging.Holder.{Holder}
use Rattle.judge.specs.Judging.{Verdict}
use Rattle.judge.specs.Inside.{FoundTo}
use Rattle.judge.proofs.Judgements.{whole_of}
use Rattle.judge.proofs.Holders.{searched_none, found_off}
use Rattle.judge.proofs.holder.find.Goals as goal

pub find_to-requires : goal.find_to-requires
find_to-requires c =
    let a = c.args in
    let l = length a.leaves.now in (
      c.requires.0,
      c.requires.1,
      rw (to_z-of_z c.ranges.x, to_z-of_z c.ranges.y) c.requires.2,
      record { whole = whole_of (lists a.m) l c.requires.1.whole; within = le_refl l },
      searched_none (lists a.m) a.leaves.now _ _,
    )

-- what was found is the answer
verdict : (σ : Setting) (ns : List ℤ) (x y : ℤ) (o : Maybe Holder) → FoundTo σ ns x y (length ns) o → Verdict σ none ns x y (Ok o)
verdict σ ns x y (Some h) f = f
verdict σ ns x y None f = found_off f (le_refl (length ns))

pub returns : goal.returns
returns c =
    let a = c.args in
    verdict (lists a.m) a.leaves.now a.x a.y c.find_to.result (rw (to_z-of_z c.ranges.x, to_z-of_z c.ranges.y) at c.find_to.ensures)
