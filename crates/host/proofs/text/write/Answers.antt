use Rattle.std.proofs.Common.{rules, ◌∙◌, length, [], ◌∷◌}
use Rattle.rules.specs.Answers.{reply_of, after}
use Rattle.host.proofs.FirstRows.{copied}
use Rattle.host.proofs.text.write.Goals as goal

pub returns-clause-result_value : goal.returns-clause-result_value
returns-clause-result_value c =
    c.write.ensures.result_value
    ∙ copied (reply_of (λ t. length t ∷ [])) _ _ _ _ _ _ _ c.copy_words-care.ensures c.copy_words-value.ensures (search rules) (search rules)

pub returns-clause-text_after : goal.returns-clause-text_after
returns-clause-text_after c =
    c.write.ensures.text_after
    ∙ copied (λ v. after (λ t. t) v c.args.text.now) _ _ _ _ _ _ _ c.copy_words-care.ensures c.copy_words-value.ensures (search rules) (search rules)
