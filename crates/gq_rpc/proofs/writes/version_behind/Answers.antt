use Rattle.std.proofs.Common.{◌∙◌, ◌++◌, ◌∷◌, [], ap, sym, true, rules, to_z-of_z}
use Rattle.std.proofs.lemmas.Int.{ints}
use Rattle.serde_json.specs.Written.{members_text}
use Rattle.gq_rpc.specs.Encoding.{version_members}
use Rattle.gq_rpc.proofs.Faultless.{last_member}
use Rattle.gq_rpc.proofs.writes.version_behind.Goals as goal
use Rattle.gq_rpc.proofs.writes.version_behind.Goals.{in-Some+in_ok-extend_from_slice+in_ok-bytes, in_default}

pub returns : goal.returns
returns c = elim c.match-version.branch [
  | in-Some+in_ok-extend_from_slice+in_ok-bytes w ↦
      last_member w.in-Some.version c.args.bytes.items _ _ _ w.in_ok-extend_from_slice.ensures.items (search (rules, ints, to_z-of_z, w.in_ok-bytes.ensures))
      (c.in_ok-extend_from_slice-2.ensures.items ∙ ap (λ b. b.items ++ 125 ∷ []) w.bytes-is)
      ∙ ap (λ version. c.args.bytes.items ++ members_text true (version_members version)) (sym w.in-Some.is)
  | in_default w ↦
      c.in_ok-extend_from_slice-2.ensures.items ∙ ap (λ b. b.items ++ 125 ∷ []) w.bytes-is
      ∙ ap (λ version. c.args.bytes.items ++ members_text true (version_members version)) (sym w.in_default.is)
]
