-- The parts of the line of an edit, joined.
use Rattle.std.proofs.Common.{◌≡◌, ℕ, List, ◌++◌, append_assoc}
use Rattle.std.specs.Prelude.{codes}
use Rattle.gq_edit.specs.declared.workspace.TextEdit.{TextEdit}
use Rattle.gq_codemod.specs.Edits.{place_of, edit_line}

parts : (old a b c d e f g h : List ℕ) → old ++ (a ++ (b ++ (c ++ (d ++ (e ++ (f ++ (g ++ h))))))) ≡ old ++ (a ++ b ++ c ++ d ++ e ++ f ++ g ++ h)
parts old a b c d e f g h = simp append_assoc

pub line-joined : (name : List ℕ) (edit : TextEdit) (old new start end text : List ℕ) → start ≡ place_of edit.range.start → end ≡ place_of edit.range.end → text ≡ edit.new_text
    → new ≡ old ++ (name ++ (codes ":" ++ (start ++ (codes "-" ++ (end ++ (codes ": " ++ (text ++ codes "\n"))))))) → new ≡ old ++ edit_line name edit
line-joined name edit old new start end text a b c is =
    rw (is, a, b, c) (parts old name (codes ":") (place_of edit.range.start) (codes "-") (place_of edit.range.end) (codes ": ") edit.new_text (codes "\n"))
