-- `write_lines::render::put_refused` meets its contract.
use Rattle.std.proofs.Common.{◌∙◌}
use Rattle.write_lines.proofs.Answers.{refused_put}
use Rattle.write_lines.proofs.render.put_refused.Goals as goal

pub returns : goal.returns
returns c =
    let number = c.from-number.ensures ∙ c.number.ensures in
    refused_put _ _ _ _ _ _ c.args.refusal _ _ number c.spot-spot.ensures c.put_word-i.ensures c.put_two.ensures
