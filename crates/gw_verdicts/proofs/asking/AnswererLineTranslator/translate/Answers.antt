use Rattle.gw_verdicts.proofs.asking.AnswererLineTranslator.translate.Goals as goal

pub returns-in_default-clause-refused : goal.returns-in_default-clause-refused
returns-in_default-clause-refused c = λ refused ask translates. c.in_default.not-Some ask (c.read_ask.ensures.only ask translates)
