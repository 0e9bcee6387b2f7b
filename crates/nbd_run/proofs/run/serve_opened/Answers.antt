use Rattle.image_layers.specs.Images.{image_disk_state}
use Rattle.nbd_run.proofs.Imaged.{served_disk}
use Rattle.nbd_run.proofs.run.serve_opened.Goals as goal

pub returns-clause-serves : goal.returns-clause-serves
returns-clause-serves g c =
    let ran = c.serve_or_log-status in
    let attached = c.attach-attached in
    served_disk image_disk_state g.S.Source.state g.K.Sink.state g.L.Sink.state c.args.asked.now.line.items c.args.asked.now.command _
    attached.result ran.result.1 _ _ c.args.input.now ran.new.input c.args.output.now ran.new.output c.args.log.now ran.new.log ran.result.0
    attached.ensures.attaches attached.ensures.keying attached.ensures.refuses
    ran.ensures.serves ran.ensures.logs ran.ensures.disk ran.ensures.status ran.ensures.untaken
