-- What a run and its laws name of the crates below beside rows, passed on from one place.
pub use Rattle.aes_core.specs.Schedule.{AreBytes}
pub use Rattle.command_rows.specs.Becoming.{Becomes, BecomesBy, BecomesSo, changes_requests}
pub use Rattle.command_rows.specs.Causes.{Caused, CausedAt, CausedBy, may_lack_memory}
pub use Rattle.command_rows.specs.Gate.{AnAttached, Needs, needs, refused_by}
pub use Rattle.command_rows.specs.Histories.{AreFirst, AreRowEvents, BreaksOff, ChangesBy, EventsBy, OnlyAt, OnlySteps, StepsAt, place_named, stores_last}
pub use Rattle.command_rows.specs.Turn.{ChangesAt, GoesThrough, IsRefused, IsUnknown, ListsDrawers, ReadRow, Replies, Serves, ServesAt, TakesOutDrawer, Turn, TurnOf, digest_or, done_or, left_or, payload_or, reach, reaped_or, tag_or, takes_out, verified_or}
pub use Rattle.command_rows.specs.verbs.{verb_of}
pub use Rattle.command_rows.specs.verbs.Fill.{generated, generator, words_of_sectors, workload}
pub use Rattle.command_rows.specs.verbs.Reap.{ReapRow, ReapsRequest, reap_answer}
pub use Rattle.command_rows.specs.verbs.Step.{StepRow, StepsRequest, next_events, step_refusal}
pub use Rattle.command_rows.specs.verbs.Submit.{SubmitRow, Submits, submit_refusal}
pub use Rattle.command_words.specs.Images.{all_differ, are_images, image_names, line_of, name_at, names_or, script_images}
pub use Rattle.command_words.specs.Reading.{command_in, line_limit, line_reading, said}
pub use Rattle.command_words.specs.declared.commands.Usage.{Usage}
pub use Rattle.command_words.specs.declared.spans.Sep.{Sep}
pub use Rattle.provider.specs.Answers.{AttachAnswers, IsWritten, ReadAnswers, SectorRequest, request}
pub use Rattle.provider_readings.specs.Data.{data_read, survivor}
pub use Rattle.queue_readings.specs.Play.{IsCovered, IsFaulty, IsOpenTask, IsPlay, Play, Shows, StoodThere, Yields, broken, pending, reaped, submitted, task_stepped}
pub use Rattle.queue_readings.specs.Tasks.{Flushes, Reads, Task, Work, Writes, data_from, exchange_task, job_of, put_task, request_of, steps_of, task_after, task_with, unit_steps, without_task, work_of}
pub use Rattle.readings.specs.Crashes.{Endures, ReadsWithCauses, image_units}
pub use Rattle.readings.specs.Steps.{Flush, Step, after, cell, event_of, events_of}
pub use Rattle.readings.specs.Survivors.{AreSteps, chosen, content_media, moment, placed}
pub use Rattle.readings.specs.Writes.{AreStepsBelow, IsNumberedBelow, data_steps, raw_steps}
pub use Rattle.readings.specs.Writings.{Put, Raw, Writing}
pub use Rattle.text_page.specs.declared.print.WriteEnd.{WriteEnd}
pub use Rattle.shelf.specs.Closing.{Closes, ClosesAs, ClosesWorld, Closing, failures}
pub use Rattle.shelf.specs.Shelved.{Shelved, drawers_of, world_of}
pub use Rattle.shelf.specs.declared.drawers.AddFault.{AddFault}
