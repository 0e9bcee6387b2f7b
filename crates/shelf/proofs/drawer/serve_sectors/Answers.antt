use Rattle.std.proofs.Common.{List, ℕ, subst}
use Rattle.command_rows.specs.Rows.{bytes_read, bytes_spelled}
use Rattle.command_rows.specs.Turn.{WriteRow}
use Rattle.shelf.specs.Shelved.{attachment_of}
use Rattle.shelf.proofs.Sectors.{at}
use Rattle.shelf.proofs.Spelling.{spelled}
use Rattle.shelf.proofs.drawer.serve_sectors.Goals as goal

pub write-answer-requires-clause-spelled : goal.write-answer-requires-clause-spelled
write-answer-requires-clause-spelled g c =
    let bounds = rw c.in-Write.is at c.requires.bounds in
    rw c.bytes_in.ensures (spelled _ bounds.1)

pub returns-in-Read-clause-serves : goal.returns-in-Read-clause-serves
returns-in-Read-clause-serves g c = rw c.in-Read.is (λ cabinet entropy. record {
  answer = bytes_read c.read-answer.new.buffer c.read-answer.result;
  row = c.read-answer.ensures.row c.args.queue.now cabinet entropy;
  replied = c.payload_or.ensures.reply c.read-answer.new.buffer;
})

pub returns-in-Write-clause-serves : goal.returns-in-Write-clause-serves
returns-in-Write-clause-serves g c = rw c.in-Write.is (λ cabinet entropy. record {
  answer = c.write-answer.result;
  row = subst (λ (digits : List ℕ). WriteRow c.in-Write.sector (bytes_spelled digits) (attachment_of c.args.queue.now c.args.provider.now) (at g.D.Disk.state c.args.queue.now cabinet entropy c.args.provider.now) c.write-answer.result (at g.D.Disk.state c.args.queue.now cabinet entropy c.write-answer.new.provider))
      c.bytes_in.ensures (c.write-answer.ensures c.args.queue.now cabinet entropy);
  replied = c.done_or.ensures.reply _;
})

pub returns-in-Fill-clause-serves : goal.returns-in-Fill-clause-serves
returns-in-Fill-clause-serves g c = rw c.in-Fill.is (λ cabinet entropy. record { answer = c.fill-answer.result; row = c.fill-answer.ensures c.args.queue.now cabinet entropy; replied = c.done_or-in-Fill.ensures.reply _ })

pub returns-in-Sum-clause-serves : goal.returns-in-Sum-clause-serves
returns-in-Sum-clause-serves g c = rw c.in-Sum.is (λ cabinet entropy. record { answer = c.sum-answer.result; row = c.sum-answer.ensures c.args.queue.now cabinet entropy; replied = c.digest_or.ensures.reply _ })
