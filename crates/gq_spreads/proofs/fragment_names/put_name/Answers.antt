use Rattle.std.proofs.Common.{rules, ◌≡◌, ◌++◌, ◌∷◌, [], length, sym, ap, ◌∙◌}
use Rattle.std.specs.Str.{bytes_eq}
use Rattle.std.proofs.lemmas.Result.{on_ok_weaker}
use Rattle.gq_names.specs.UnderNames.{one_if}
use Rattle.gq_types.specs.Entries.{Text}
use Rattle.gq_spreads.specs.Spreads.{places_from}
use Rattle.gq_spreads.proofs.PlaceLemmas.{places_more}
use Rattle.gq_spreads.proofs.fragment_names.put_name.Goals as goal

pub returns-clause-found : goal.returns-clause-found
returns-clause-found c =
    let name = c.args.name.now in
    let names = c.args.names.now.items in
    let longer : c.push.new.self.items ≡ names ++ name ∷ [] = c.in_ok-push.ensures.items ∙ ap (λ (t : Text). names ++ t ∷ []) c.in_ok-from_str.ensures.text in
    let number : c.len-number.result ≡ length names = search rules in
    on_ok_weaker c.put.result
    (λ put text. put text ∙ ap (λ ns. ns ++ one_if (bytes_eq text name) c.len-number.result) (c.requires text) ∙ ap (λ n. places_from 0 text names ++ one_if (bytes_eq text name) n) number
    ∙ sym (places_more text names name) ∙ ap (places_from 0 text) (sym longer))
    c.put.ensures.ok
