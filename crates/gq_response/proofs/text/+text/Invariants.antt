use Rattle.std.proofs.Common.{◌≡◌, ◌++◌, map, drop}
use Rattle.std.specs.Prelude.{string_bytes}
use Rattle.gq_response.specs.Texts.{with_commas, data_text}
use Rattle.gq_response.specs.Helping.Commas.{texts_from, member_text}
use Rattle.gq_response.specs.Views.{data_view, members_view}
use Rattle.gq_response.proofs.text.+text.Given as goal

abbrev pub invariant-put_items-loop-i : goal.invariant-put_items-loop-i
invariant-put_items-loop-i l = string_bytes l.text ++ texts_from l.i (map data_text (map data_view (drop l.i l.items))) ≡ string_bytes l.initial.text ++ with_commas (map data_text (map data_view l.items))

abbrev pub invariant-put_members-loop-i : goal.invariant-put_members-loop-i
invariant-put_members-loop-i l = string_bytes l.text ++ texts_from l.i (map member_text (members_view (drop l.i l.members))) ≡ string_bytes l.initial.text ++ with_commas (map member_text (members_view l.members))
