use Rattle.std.proofs.Common.{◌≡◌, ◌<◌, length, true, false, refl, add-zero, sym, arith}
use Rattle.std.proofs.lemmas.Bool.Decides.{nat_tests}
use Rattle.gq_text.proofs.Steps.{behind_step, behind_ends, width_at, units_at, width_read, units_read, last_read, content_byte, last_byte}
use Rattle.gq_text.proofs.Further.{behind_at}
use Rattle.gq_text.proofs.scan.position_after.Goals as goal
use Rattle.gq_text.proofs.scan.position_after.Goals.{then-is_last_of_line, else-is_last_of_line+then-lead-ne13, else-is_last_of_line+else-lead-ne13}

pub characters-init : goal.characters-init
characters-init g c =
    behind_at c.args.encoding (g.B.Bytes.contents c.args.bytes.now) c.args.earlier c.args.offset c.args.position c.requires.utf8 c.requires.from c.requires.ordered c.requires.known

pub characters-preserved : goal.characters-preserved
characters-preserved g c =
    let t = g.B.Bytes.contents c.args.bytes.now in
    let wide : c.width_of-at.result ≡ width_at t c.characters.at = width_read t c.characters.at _ _ c.width_of-at.ensures c.byte-lead.ensures in
    let lt : c.characters.at < length t = omega (arith, c.requires.boundary.0) in
    rw wide (elim c.if-is_last_of_line.branch [
      | then-is_last_of_line w ↦ rw (w.line-is, w.character-is) (behind_step c.args.encoding t _ _ _ _ true (content_byte t c.characters.at) c.characters.invariant lt c.requires.boundary (omega arith) (last_read t c.characters.at _ _ c.is_last_of_line.ensures w.if-is_last_of_line.true) refl)
      | else-is_last_of_line+then-lead-ne13 w ↦
          let units : w.units_of-character.result ≡ units_at c.args.encoding t c.characters.at = units_read c.args.encoding t c.characters.at _ _ w.units_of-character.ensures.utf8 w.units_of-character.ensures.utf16 c.byte-lead.ensures in
          let last : last_byte t c.characters.at ≡ false = last_read t c.characters.at _ _ c.is_last_of_line.ensures w.if-is_last_of_line.false in
          let inside : content_byte t c.characters.at ≡ true = grind (arith, nat_tests) in
          rw (w.line-is, w.character-is, units) (behind_step c.args.encoding t _ _ _ _ false true c.characters.invariant lt c.requires.boundary (omega arith) last inside)
      | else-is_last_of_line+else-lead-ne13 w ↦
          let last : last_byte t c.characters.at ≡ false = last_read t c.characters.at _ _ c.is_last_of_line.ensures w.if-is_last_of_line.false in
          let inside : content_byte t c.characters.at ≡ false = grind (arith, nat_tests) in
          let b = behind_step c.args.encoding t _ _ _ _ false false c.characters.invariant lt c.requires.boundary (omega arith) last inside in
          rw (w.line-is, w.character-is) (rw (add-zero c.characters.character) at b)
    ])

pub returns : goal.returns
returns g c = sym (behind_ends c.args.encoding (g.B.Bytes.contents c.args.bytes.now) _ _ _ _ c.characters.invariant (omega arith))
