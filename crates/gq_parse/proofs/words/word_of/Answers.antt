use Rattle.std.proofs.Common.{sym, ◌∙◌}
use Rattle.gq_parse.specs.declared.expected.Word.TheVariants as word
use Rattle.gq_parse.proofs.WordsAre.{keyword_is, no_keyword, else_other}
use Rattle.gq_parse.proofs.words.word_of.Goals as goal

pub returns-in-query : goal.returns-in-query
returns-in-query c = sym (keyword_is c.args.text.now word.Query tt c.in-query.is)

pub returns-in-mutation : goal.returns-in-mutation
returns-in-mutation c = sym (keyword_is c.args.text.now word.Mutation tt c.in-mutation.is)

pub returns-in-subscription : goal.returns-in-subscription
returns-in-subscription c = sym (keyword_is c.args.text.now word.Subscription tt c.in-subscription.is)

pub returns-in-fragment : goal.returns-in-fragment
returns-in-fragment c = sym (keyword_is c.args.text.now word.Fragment tt c.in-fragment.is)

pub returns-in-on : goal.returns-in-on
returns-in-on c = sym (keyword_is c.args.text.now word.On tt c.in-on.is)

pub returns-in-true : goal.returns-in-true
returns-in-true c = sym (keyword_is c.args.text.now word.True tt c.in-true.is)

pub returns-in-false : goal.returns-in-false
returns-in-false c = sym (keyword_is c.args.text.now word.False tt c.in-false.is)

pub returns-in-null : goal.returns-in-null
returns-in-null c = sym (keyword_is c.args.text.now word.Null tt c.in-null.is)

pub returns-in-extend : goal.returns-in-extend
returns-in-extend c = sym (keyword_is c.args.text.now word.Extend tt c.in-extend.is)

pub returns-in-schema : goal.returns-in-schema
returns-in-schema c = sym (keyword_is c.args.text.now word.Schema tt c.in-schema.is)

pub returns-in-scalar : goal.returns-in-scalar
returns-in-scalar c = sym (keyword_is c.args.text.now word.Scalar tt c.in-scalar.is)

pub returns-in-type : goal.returns-in-type
returns-in-type c = sym (keyword_is c.args.text.now word.Object tt c.in-type.is)

pub returns-in-interface : goal.returns-in-interface
returns-in-interface c = sym (keyword_is c.args.text.now word.Interface tt c.in-interface.is)

pub returns-in-union : goal.returns-in-union
returns-in-union c = sym (keyword_is c.args.text.now word.Union tt c.in-union.is)

pub returns-in-enum : goal.returns-in-enum
returns-in-enum c = sym (keyword_is c.args.text.now word.Enum tt c.in-enum.is)

pub returns-in-input : goal.returns-in-input
returns-in-input c = sym (keyword_is c.args.text.now word.Input tt c.in-input.is)

pub returns-in-directive : goal.returns-in-directive
returns-in-directive c = sym (keyword_is c.args.text.now word.Directive tt c.in-directive.is)

pub returns-in-implements : goal.returns-in-implements
returns-in-implements c = sym (keyword_is c.args.text.now word.Implements tt c.in-implements.is)

pub returns-in-repeatable : goal.returns-in-repeatable
returns-in-repeatable c = sym (keyword_is c.args.text.now word.Repeatable tt c.in-repeatable.is)

pub returns-in_default : goal.returns-in_default
returns-in_default c =
    let n = c.in_default in
    c.other_word.ensures ∙ else_other c.args.text.now (no_keyword c.args.text.now n.not-query n.not-mutation n.not-subscription n.not-fragment n.not-on n.not-true n.not-false n.not-null n.not-extend n.not-schema n.not-scalar n.not-type n.not-interface n.not-union n.not-enum n.not-input n.not-directive n.not-implements n.not-repeatable)
