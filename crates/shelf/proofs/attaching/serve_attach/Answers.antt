use Rattle.shelf.proofs.attaching.serve_attach.Goals as goal

pub returns-clause-serves : goal.returns-clause-serves
returns-clause-serves g c = rw c.in-Attach.is (λ entropy bytes. record {
  answer = c.attach-held.result.1;
  row = c.attach-held.ensures entropy;
  replied = c.done_or.ensures.reply bytes;
})
