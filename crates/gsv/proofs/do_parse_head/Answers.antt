-- `do_parse_head` meets its contract: three numbers, one after the other. Assumes nothing.
use Rattle.text.proofs.Finding.{finding}
use Rattle.gsv.proofs.do_parse_head.Goals as goal

pub returns-in_err-count : goal.returns-in_err-count
returns-in_err-count c = search finding depth 14

pub returns-in_err-index : goal.returns-in_err-index
returns-in_err-index c = search finding depth 14

pub returns-in_err-view : goal.returns-in_err-view
returns-in_err-view c = search finding depth 14

pub returns : goal.returns
returns c = search finding depth 14
