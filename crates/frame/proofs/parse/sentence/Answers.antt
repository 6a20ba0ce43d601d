-- The parts are read in the order of the definition, and each answer of a part is one step of it. Assumes nothing.
use Rattle.frame.specs.Frame.{sentence}
use Rattle.text.proofs.Finding.{stop, go}
use Rattle.frame.proofs.Steps.{steps, go-char, done-sentence}
use Rattle.frame.proofs.parse.sentence.Goals as goal

pub returns-in_err-byte : goal.returns-in_err-byte
unfolding sentence
returns-in_err-byte c = search steps depth 14 fits 20000

pub returns-in_err-talker : goal.returns-in_err-talker
unfolding sentence
returns-in_err-talker c = search steps depth 14 fits 20000

pub returns-in_err-kind : goal.returns-in_err-kind
unfolding sentence
returns-in_err-kind c = search steps depth 14 fits 20000

pub returns-in_err-byte-2 : goal.returns-in_err-byte-2
unfolding sentence
returns-in_err-byte-2 c = search steps depth 14 fits 20000

pub returns-in_err-to : goal.returns-in_err-to
unfolding sentence
returns-in_err-to c = search steps depth 14 fits 20000

pub returns-in_err-found : goal.returns-in_err-found
unfolding sentence
returns-in_err-found c =
    go-char _ _ c.branch-byte.ensures c.in_ok-byte.is c.byte.ensures
    (go _ c.branch-talker.ensures c.in_ok-talker.is c.talker.ensures
    (go _ c.branch-kind.ensures c.in_ok-kind.is c.sentence_type.ensures
    (go-char _ _ c.branch-byte-2.ensures c.in_ok-byte-2.is c.byte-2.ensures
    (go _ c.branch-to.ensures c.in_ok-to.is c.star.ensures
    (stop _ c.branch-found.ensures c.in_err-found.is c.from_residual-in_err-found.ensures c.checksum_field.ensures)))))

pub returns : goal.returns
unfolding sentence
returns c =
    go-char _ _ c.branch-byte.ensures c.in_ok-byte.is c.byte.ensures
    (go _ c.branch-talker.ensures c.in_ok-talker.is c.talker.ensures
    (go _ c.branch-kind.ensures c.in_ok-kind.is c.sentence_type.ensures
    (go-char _ _ c.branch-byte-2.ensures c.in_ok-byte-2.is c.byte-2.ensures
    (go _ c.branch-to.ensures c.in_ok-to.is c.star.ensures
    (go _ c.branch-found.ensures c.in_ok-found.is c.checksum_field.ensures
    (done-sentence c.new.ensures c.branch-to.ensures c.in_ok-to.is c.star.ensures))))))
