-- `draw::draw` meets its contract: check 12, check 13, then the vertices.
use Rattle.boxes.proofs.Faults.{place_some, place_none}
use Rattle.draw.proofs.Answers.{at_fault, too_few, all_drawn}
use Rattle.draw.proofs.draw.Goals as goal

pub returns-in-Some : goal.returns-in-Some
returns-in-Some c =
    let a = c.args in
    let both = at_fault a.first a.second a.vertices.now (place_some _ c.in-Some.ensures) in
    record { value = both.0; vertices_after = both.1 }

pub returns-then-vertices-lt16 : goal.returns-then-vertices-lt16
returns-then-vertices-lt16 c =
    let a = c.args in
    let both = too_few a.first a.second a.vertices.now (place_none _ c.in_default.ensures)
    c.if-vertices-lt16.true in
    record { value = both.0; vertices_after = both.1 }

pub returns : goal.returns
returns c =
    let a = c.args in
    let both = all_drawn a.first a.second a.vertices.now (place_none _ c.in_default.ensures)
    c.if-vertices-lt16.false c.put_vertices.ensures.value c.put_vertices.ensures.list_after in
    record { value = both.0; vertices_after = both.1 }
