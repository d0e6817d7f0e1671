use Rattle.std.proofs.Common.{List, sym, ◌∙◌, ap}
use Rattle.std.specs.List.{position}
use Rattle.std.specs.Str.{bytes_eq}
use Rattle.gq_document.specs.FieldSets.{key}
use Rattle.gq_merging.specs.Helping.Views.{field_at}
use Rattle.gq_merging.specs.declared.rows.Member.{Member}
use Rattle.gq_merging.proofs.ClassLemmas.{position_keys}
use Rattle.gq_merging.proofs.classes.find_class.Goals as goal

pub returns-in-None : goal.returns-in-None
returns-in-None c =
    c.find_first.ensures ∙ ap (λ (ms : List Member). position (λ m. bytes_eq c.args.text.now (key (field_at m.it))) ms) c.deref.ensures.value
    ∙ sym (position_keys c.args.text.now c.args.classes.now)
