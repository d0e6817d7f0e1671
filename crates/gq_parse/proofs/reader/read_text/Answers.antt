use Rattle.gq_parse.proofs.reader.read_text.Goals as goal

pub returns-in-Err-Syntax : goal.returns-in-Err-Syntax
returns-in-Err-Syntax c =
    let is = c.in-Err-Syntax.field-0-is in
    (c.in-Err-Syntax.ensures.refused (λ h. cc), c.in-Err-Syntax.ensures.syntax c.in-Err-Syntax.place is)

pub returns-in-Err-Limit : goal.returns-in-Err-Limit
returns-in-Err-Limit c =
    let is = c.in-Err-Limit.field-0-is in
    (c.in-Err-Limit.ensures.refused (λ h. cc), c.in-Err-Limit.ensures.limit c.in-Err-Limit.place is)
