use Rattle.std.proofs.Common.{◌∙◌, ap}
use Rattle.json.specs.Print.{quoted}
use Rattle.gq_check.proofs.FormLemmas.{front-joined}
use Rattle.gq_check.proofs.formats.front_text.Goals as goal

pub returns : goal.returns
returns c =
    front-joined c.args.found.now _ _ _ _ _ (c.as_str-file.ensures.value ∙ c.in_ok-file.ensures ∙ ap quoted c.as_str.ensures) c.as_str-code.ensures c.words-words.ensures c.section-section.ensures c.in_ok-text.ensures.ok
