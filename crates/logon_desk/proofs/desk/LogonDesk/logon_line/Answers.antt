use Rattle.std.proofs.Common.{◌∙◌, ℕ, List, ap, map, subst}
use Rattle.std.specs.Result.{OnOk}
use Rattle.text_words.specs.Words.{words_of}
use Rattle.logon_desk.specs.Desk.{Does, Step}
use Rattle.terminal_lines.specs.Words.{capital, said_by}
use Rattle.logon_desk.proofs.Steps.{says_line}
use Rattle.logon_desk.proofs.desk.LogonDesk.logon_line.Goals as goal

-- the stage was moved out before it was replaced
pub returns : goal.returns
returns c =
    let old = c.self.inside in
    let same = says_line old.connections.items old.accounts.items old.guesses c.args.self.now c.args.connection
    c.index_mut-place.result.now c.replace.new.dest c.replace.result c.in_ok-said.said
    c.after_line-answer.result c.args.line.now c.in_ok-capitals.capitals c.args.now c.self.view_is c.requires.within
    c.index_mut-place.ensures.value c.replace.ensures.after c.replace.ensures.value
    (c.in_ok-capitals.ensures ∙ ap (λ (l : List ℕ). map capital l) c.as_slice.ensures) (c.in_ok-said.ensures
    ∙ ap (λ (l : List ℕ). said_by (words_of l)) c.as_slice-2.ensures) c.after_line-answer.ensures in
    subst (λ (s : Step). OnOk c.answered.result (Does s c.args.out.now c.answered.new.self c.answered.new.out)) same
    c.answered.ensures
