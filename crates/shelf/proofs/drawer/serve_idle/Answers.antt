use Rattle.shelf.proofs.drawer.serve_idle.Goals as goal

pub returns-in-Resize-clause-serves : goal.returns-in-Resize-clause-serves
returns-in-Resize-clause-serves g c = rw c.in-Resize.is (record {
  answer = c.resize-answer.result;
  row = c.resize-answer.ensures _;
  replied = c.done_or-in-Resize.ensures.reply _;
})
