-- Document 01's listing: from the bytes of its text to the bytes of its answer, by computation; and more texts.
use mathlib.Core.Path.{◌≡◌, refl}
use mathlib.Core.List.{List, [], ◌∷◌}
use Prim.Native.Nat.{ℕ}
use lib.IntN.{pow, one}
use Rattle.integers.specs.Rounding.{floor, ceiling}
use Rattle.curve_halves.specs.Halves.{triangle, left, right}
use Rattle.curve_nodes.specs.Halves.{left_half, right_half}
use Rattle.curve_nodes.specs.Nodes.{descend_in, descend, depth, node_curve}
use Rattle.bound_rows.specs.Table.{table, rows_of}
use Rattle.bound_enclosure.specs.Bounds.{row_sum, high, low}
use Rattle.bound_node.specs.Boxes.{box_at, meets}
use Rattle.outline.specs.Curves.{curve_at}
use Rattle.integers.specs.First.{first_bad}
use Rattle.outline.specs.Faults.{fault_at}
use Rattle.outline.specs.Checks.{outline_from, outlined}
use Rattle.walk_tree.specs.Tree.{ends, met, first_failing}
use Rattle.band_records.specs.Records.{record_of, all_records}
use Rattle.band_records.specs.Records as Records
use Rattle.band_passes.specs.Leaves.{first_too_wide, leaves_of, nodes_of}
use Rattle.band_banded.specs.Banding.{band_given, written_given, band_curves}
use Rattle.text_numbers.specs.Numerals.{value_from, digit_count, natural_at, number_at}
use Rattle.text_forms.specs.Pairs as Pairs
use Rattle.text_forms.specs.Forms as Forms
use Rattle.text_lines.specs.Lines.{lines_from, lines_of, gather}
use Rattle.text_lines.specs.Meaning.{numbers_of_curve, fault_from, meaning_of, meaning}
use Rattle.text_lines.proofs.Examples.{listing}
use Rattle.write_numbers.specs.Digits.{digits}
use Rattle.write_numbers.specs.Decimals.{decimal, spaced, spaced_natural}
use Rattle.write_lines.specs.Answers.{done_line, refused_line, on_line}
use Rattle.write_leaves.specs.Boxes.{four_numbers, box_bytes, boxes_bytes}
use Rattle.write_leaves.specs.Leaves.{leaf_line, leaf_lines}
use Rattle.judge_list.specs.Checks.{number_fault}
use Rattle.judge_cover.specs.Deciding.{held}
use Rattle.judge.specs.Judging.{judging_fault}
use Rattle.judge.specs.Judgements.{first_held, judgement}
use Rattle.write_lines.specs.BandLines.{band_lines}
use Rattle.text_answers.specs.Points.{point_answer, point_answers}
use Rattle.text_answers.specs.Answers.{answer_to, answer_of}

-- what the examples compute through
computing : List ℕ → List ℕ
unfolding answer_of answer_to band_lines point_answers point_answer judging_fault number_fault judgement first_held held meaning meaning_of fault_from
    numbers_of_curve lines_of lines_from gather Forms.form_at Pairs.starts_with Forms.tolerance_form_at Forms.point_form_at Forms.curve_form_at Forms.curve_third
    Forms.curve_fourth Forms.curve_end Pairs.spaced_pair_at Pairs.pair_at Pairs.number_then number_at natural_at value_from digit_count written_given all_records
    Records.records_of record_of band_given band_curves first_too_wide leaves_of nodes_of ends met first_failing outlined outline_from fault_at first_bad curve_at
    descend descend_in depth node_curve meets box_at table rows_of high low row_sum floor ceiling left_half right_half left right triangle pow one leaf_lines leaf_line
    boxes_bytes box_bytes four_numbers done_line refused_line on_line spaced spaced_natural decimal digits
computing = answer_of

-- "(leaf 0 1 (0 0 0 38) (160 160 319 363) (320 320 319 363) (480 480 0 38))", "(done 1 1 1)", "(on 0 1)", "(off)"
pub listing_answer : answer_of listing
    ≡ 40 ∷ 108 ∷ 101 ∷ 97 ∷ 102 ∷ 32 ∷ 48 ∷ 32 ∷ 49 ∷ 32 ∷ 40 ∷ 48 ∷ 32 ∷ 48 ∷ 32 ∷ 48 ∷ 32 ∷ 51 ∷ 56 ∷ 41 ∷ 32 ∷ 40 ∷ 49 ∷ 54 ∷ 48 ∷ 32 ∷ 49 ∷ 54
    ∷ 48 ∷ 32 ∷ 51 ∷ 49 ∷ 57 ∷ 32 ∷ 51 ∷ 54 ∷ 51 ∷ 41 ∷ 32 ∷ 40 ∷ 51 ∷ 50 ∷ 48 ∷ 32 ∷ 51 ∷ 50 ∷ 48 ∷ 32 ∷ 51 ∷ 49 ∷ 57 ∷ 32 ∷ 51 ∷ 54 ∷ 51 ∷ 41 ∷ 32
    ∷ 40 ∷ 52 ∷ 56 ∷ 48 ∷ 32 ∷ 52 ∷ 56 ∷ 48 ∷ 32 ∷ 48 ∷ 32 ∷ 51 ∷ 56 ∷ 41 ∷ 41 ∷ 10
    ∷ 40 ∷ 100 ∷ 111 ∷ 110 ∷ 101 ∷ 32 ∷ 49 ∷ 32 ∷ 49 ∷ 32 ∷ 49 ∷ 41 ∷ 10
    ∷ 40 ∷ 111 ∷ 110 ∷ 32 ∷ 48 ∷ 32 ∷ 49 ∷ 41 ∷ 10 ∷ 40 ∷ 111 ∷ 102 ∷ 102 ∷ 41 ∷ 10 ∷ []
unfolding computing
listing_answer = refl

-- no curve lines: "(refused 6 0)"
pub no_curves : answer_of (40 ∷ 116 ∷ 111 ∷ 108 ∷ 101 ∷ 114 ∷ 97 ∷ 110 ∷ 99 ∷ 101 ∷ 32 ∷ 52 ∷ 52 ∷ 41 ∷ 10 ∷ [])
    ≡ 40 ∷ 114 ∷ 101 ∷ 102 ∷ 117 ∷ 115 ∷ 101 ∷ 100 ∷ 32 ∷ 54 ∷ 32 ∷ 48 ∷ 41 ∷ 10 ∷ []
unfolding computing
no_curves = refl
