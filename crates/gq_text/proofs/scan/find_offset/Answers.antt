use Rattle.std.proofs.Common.{◌≡◌, ◌<◌, ◌&&◌, nat_le, length, true, false, arith}
use Rattle.std.proofs.lemmas.Bool.Decides.{nat_tests}
use Rattle.gq_text.proofs.Steps.{ahead_boundary, ahead_line, ahead_content, ahead_stops, ahead_ends, width_at, units_at, width_read, units_read, last_read, content_byte, step}
use Rattle.gq_text.proofs.scan.find_offset.Goals as goal
use Rattle.gq_text.proofs.scan.find_offset.Goals.{then-is_last_of_line, else-is_last_of_line, then-lines-test+else-at-len, else-lines-test}

pub overflow_add-at : goal.overflow_add-at
overflow_add-at g c =
    let t = g.B.Bytes.contents c.args.bytes.now in
    let wide : c.width_of-at.result ≡ width_at t c.lines.at = width_read t c.lines.at _ _ c.width_of-at.ensures c.byte.ensures in
    let lt : c.lines.at < length t = omega arith in
    let w = step t c.lines.at c.lines.invariant.text lt in
    omega (arith, w.inside)

pub lines-preserved : goal.lines-preserved
lines-preserved g c =
    let t = g.B.Bytes.contents c.args.bytes.now in
    let wide : c.width_of-at.result ≡ width_at t c.lines.at = width_read t c.lines.at _ _ c.width_of-at.ensures c.byte.ensures in
    let lt : c.lines.at < length t = omega arith in
    rw wide (elim c.if-is_last_of_line.branch [
      | then-is_last_of_line w ↦ rw w.left-is (ahead_line c.args.encoding t _ _ _ _ true c.lines.invariant (omega arith) lt (last_read t c.lines.at _ _ c.is_last_of_line.ensures w.if-is_last_of_line.true))
      | else-is_last_of_line w ↦ rw w.left-is (ahead_line c.args.encoding t _ _ _ _ false c.lines.invariant (omega arith) lt (last_read t c.lines.at _ _ c.is_last_of_line.ensures w.if-is_last_of_line.false))
    ])

pub returns-then-left-gt0-clause-offset : goal.returns-then-left-gt0-clause-offset
returns-then-left-gt0-clause-offset g c =
    let t = g.B.Bytes.contents c.args.bytes.now in
    elim c.lines-test.branch [
      | then-lines-test+else-at-len w ↦ ahead_ends c.args.encoding t _ _ _ _ c.lines.invariant (omega arith)
      | else-lines-test w ↦ absurd (omega arith)
    ]

pub returns-then-lead-eq10-clause-offset : goal.returns-then-lead-eq10-clause-offset
returns-then-lead-eq10-clause-offset g c =
    let t = g.B.Bytes.contents c.args.bytes.now in
    let no : (content_byte t c.characters.at && nat_le (units_at c.args.encoding t c.characters.at) c.characters.room) ≡ false = grind (arith, nat_tests) in
    ahead_stops c.args.encoding t _ _ _ c.characters.invariant (omega arith) no

pub overflow_add-at-in-characters : goal.overflow_add-at-in-characters
overflow_add-at-in-characters g c =
    let t = g.B.Bytes.contents c.args.bytes.now in
    let wide : c.width_of-at-in-characters.result ≡ width_at t c.characters.at = width_read t c.characters.at _ _ c.width_of-at-in-characters.ensures c.byte-lead.ensures in
    let lt : c.characters.at < length t = omega arith in
    let w = step t c.characters.at c.characters.invariant.text lt in
    omega (arith, w.inside)

pub characters-preserved : goal.characters-preserved
characters-preserved g c =
    let t = g.B.Bytes.contents c.args.bytes.now in
    let wide : c.width_of-at-in-characters.result ≡ width_at t c.characters.at = width_read t c.characters.at _ _ c.width_of-at-in-characters.ensures c.byte-lead.ensures in
    let units : c.units_of-units.result ≡ units_at c.args.encoding t c.characters.at = units_read c.args.encoding t c.characters.at _ _ c.units_of-units.ensures.utf8 c.units_of-units.ensures.utf16 c.byte-lead.ensures in
    let lt : c.characters.at < length t = omega arith in
    let yes : (content_byte t c.characters.at && nat_le (units_at c.args.encoding t c.characters.at) c.characters.room) ≡ true = grind (arith, nat_tests) in
    rw (wide, units) (ahead_content c.args.encoding t _ _ _ c.characters.invariant lt yes)

pub returns-clause-offset : goal.returns-clause-offset
returns-clause-offset g c = ahead_ends c.args.encoding (g.B.Bytes.contents c.args.bytes.now) _ _ _ _ c.characters.invariant (omega arith)

pub returns-then-left-gt0-clause-boundary : goal.returns-then-left-gt0-clause-boundary
returns-then-left-gt0-clause-boundary g c = ahead_boundary c.args.encoding (g.B.Bytes.contents c.args.bytes.now) _ _ _ _ c.lines.invariant

pub returns-then-lead-eq10-clause-boundary : goal.returns-then-lead-eq10-clause-boundary
returns-then-lead-eq10-clause-boundary g c = ahead_boundary c.args.encoding (g.B.Bytes.contents c.args.bytes.now) _ _ _ _ c.characters.invariant

pub returns-clause-boundary : goal.returns-clause-boundary
returns-clause-boundary g c = ahead_boundary c.args.encoding (g.B.Bytes.contents c.args.bytes.now) _ _ _ _ c.characters.invariant
