-- The laws of rows that the proofs of verbs cite, passed on from one place.
pub use Rattle.command_rows.specs.Becoming.{Becomes}
pub use Rattle.command_rows.specs.Causes.{LineHasCause, may_lack_memory, needs_tags}
pub use Rattle.command_rows.specs.Gate.{AnIdle, job_writes, needs, refused_by}
pub use Rattle.command_rows.specs.Grounds.{HasGround, IsGround}
pub use Rattle.command_rows.specs.Stops.{ChangesMetadata}
pub use Rattle.command_rows.specs.Storing.{StoresAt, StoresNone, StoresOne}
pub use Rattle.command_rows.proofs.Becoming.{attached_becomes, becomes_as, holds_same, same_reach, some_is_none, stays_next, stays_quiet, stays_so, stays_then}
pub use Rattle.command_rows.proofs.Causing.{Step, Why, device_sector_why, events_why, range_why, same_then_why, then_since, then_why, whole_why, writable_write_why}
pub use Rattle.command_rows.proofs.Counting.{Counts, CountsResult, Later, Uncounted, UncountedAnswer, attaching_counts, beside, by_plain, decision_counts, does_uncounted, file_counts, plain_uncounted, some_uncounted, storing_counts, then_counts, uncounted_step}
pub use Rattle.command_rows.proofs.Events.{Did, Quiet, did_then, does_did, nothing_done, part_did, quiet_attaching, quiet_device_sector, quiet_did, quiet_failure, quiet_loading, quiet_reading, quiet_sectors, quiet_then, quiet_trial, same_disk, same_quiet, writable_did}
pub use Rattle.command_rows.proofs.Fitting.{RulesOut, apart_out, attach_fits, false_is_true, has_metadata, has_same, never_both, never_holds, no_bad_file, not_both, not_some, parts_same, passes, read_at, reads_same}
pub use Rattle.command_rows.proofs.Gate.{attached, by_attachment, suspended, unattached, with_attached, with_suspended}
pub use Rattle.command_rows.proofs.Grounding.{BadFiles, Grounds, Since, decides_why, loading_bytes, loading_parts, loading_since, loading_why, plain_cause, reading_has, reading_since, reading_why, since_cabinet, since_same, storing_why}
pub use Rattle.command_rows.proofs.Keeping.{IsNew, KeepsRequests, NoneOpen, attached_keeps, attached_new, none_try, row_keeps}
pub use Rattle.command_rows.proofs.KeyEvents.{DoesFrom, after_quiet}
pub use Rattle.command_rows.proofs.Lawful.{IsLawful, LineDid, attached_did, attached_quiet, attached_why, done_left, nothing_changed, reply_line, row_refused}
pub use Rattle.command_rows.proofs.PlaceEvents.{quiet_storing, same_replacing}
pub use Rattle.command_rows.proofs.Plain.{PlainAnswer, PlainOption, key_option, key_plain, meta_plain, or_plain, plain_some}
pub use Rattle.command_rows.proofs.QueueingSound.{HoldsSame, holds_next, needs_counts, needs_same, queue_holds}
pub use Rattle.command_rows.proofs.Replies.{digest_replying, done_replying, dump_replying, left_replying, payload_replying, reaped_replying, tag_replying, verified_replying}
pub use Rattle.command_rows.proofs.Sound.{Keeps, Sound, SoundReply, attached_reply, attaches_keep, idles, keeps_next, sound_reply, sound_then}
pub use Rattle.command_rows.proofs.Still.{Still, StillBut, admitting_still, components_still, device_sector_still, doing_still, done_still, range_still, read_still, reading_still, sectors_still, still_but_sound, still_but_then, still_decision, still_sound, still_then, storing_still, try_still, whole_still, writable_still}
pub use Rattle.command_rows.proofs.Stopping.{Change, Early, Left, Same, alone_from, before_all, early_decision, early_loading, early_reading, left_then, moments_from, not_done, same_content}
pub use Rattle.command_rows.proofs.Storing.{Stored, Unstored, attaching_unstored, bytes_stored, next_unstored, none_then, request_unstored, same_files, unstored_reply, unstored_then}
