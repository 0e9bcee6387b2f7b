-- What rows and their laws name of the crates below, passed on from one place.
pub use Rattle.backup_restore.specs.Restoring.{GivesMetadata, IsBackedUp, Restores, fitted, restored, unless_fault}
pub use Rattle.backup_restore.specs.Saving.{Saves}
pub use Rattle.bio_queue.specs.Answers.{AsksReads, FailsStep, Gave, HasBadUnit, IsAdmitted, IsAllDone, IsAsked, IsGiven, IsNotDone, IsSubmitted, IsWrite, JobIsInRange, JobPassesEnd, ReapAnswers, StepAnswers, StepsOn, SubmitAnswers, TakesJob, TakesOut, asked, units_of}
pub use Rattle.bio_queue.specs.Owners.{AreAllOf, IsOf, IsOpenRequest}
pub use Rattle.bio_queue.specs.Requests.{IsLeastFree, Request, device_after, exchanged, left_of, next_of, put_in, request_with, step_events, stepped, without}
pub use Rattle.bio_queue.specs.declared.faults.ReapFault.{ReapFault}
pub use Rattle.bio_queue.specs.declared.faults.StepFault.{StepFault}
pub use Rattle.bio_queue.specs.declared.faults.SubmitFault.{SubmitFault}
pub use Rattle.bio_queue.specs.declared.job.Job.{Job}
pub use Rattle.bio_queue.specs.declared.job.Reaped.{Reaped}
pub use Rattle.block_traits.specs.Cabinet.{CabinetState, Files, stored, with_file}
pub use Rattle.block_traits.specs.Causes.{Counted, Rose}
pub use Rattle.block_traits.specs.Content.{Content, IsContentOf, IsEventOf, IsSector, logged, present, present_after, with_events}
pub use Rattle.block_traits.specs.Disk.{Continues, DiskState, FailsIn, FitsSize, Gives, GivesFrom, IsHistory, Logs, last_sector, store_events}
pub use Rattle.block_traits.specs.Moments.{AtEachMoment, HoldsOldOr, HoldsOnceFlushed, KeepsAlone, KeepsOldOr, WaitsForFlush}
pub use Rattle.block_traits.specs.Overwriting.{overwrite_events}
pub use Rattle.block_traits.specs.Streams.{EntropyState, SinkState, SourceState, Takes, TookAll, TookPart}
pub use Rattle.block_traits.specs.declared.disk.Event.{Event}
pub use Rattle.command_words.specs.Places.{CommandIsWithin, ProviderIsText, bytes_at, provider_of}
pub use Rattle.command_words.specs.declared.commands.Command.{Command}
pub use Rattle.command_words.specs.declared.commands.JobWords.{JobWords}
pub use Rattle.command_words.specs.declared.spans.KeyWords.{KeyWords}
pub use Rattle.command_words.specs.declared.spans.Span.{Span}
pub use Rattle.eli_base.specs.Keying.{Keying, keying_of}
pub use Rattle.eli_base.specs.Units.{media_sectors, units_per_sector}
pub use Rattle.eli_base.specs.declared.algorithms.Auth.{Auth}
pub use Rattle.eli_base.specs.declared.parameters.MasterKey.{MasterKey}
pub use Rattle.eli_base.specs.declared.refusals.Refusal.{Refusal}
pub use Rattle.eli_metadata.specs.Checks.{Settings, is_set, settings_of, size_matches, slot_matches, supported}
pub use Rattle.eli_metadata.specs.Format.{encoded, metadata_in}
pub use Rattle.eli_metadata.specs.Place.{IsSectorOf, ReadsLast, ReadsMetadata, replace_events}
pub use Rattle.eli_metadata.specs.Refusals.{read_refusal_of, refusal_of}
pub use Rattle.eli_metadata.specs.declared.metadata.MetaFault.{MetaFault}
pub use Rattle.eli_metadata.specs.declared.metadata.Metadata.{Metadata}
pub use Rattle.eli_metadata.specs.declared.place.ReadMetaFault.{ReadMetaFault}
pub use Rattle.key_commands.specs.DeleteKeys.{DeletesKeys, Deletion, HasOtherKeys, IsWithout, Overwrites}
pub use Rattle.key_commands.specs.NewKey.{HasNewKey, KeyChange, MakesKey, change_refusal, changed_iterations, with_key}
pub use Rattle.key_commands.specs.NewProvider.{Inits, MakesMetadata, init_events}
pub use Rattle.key_commands.specs.Options.{early_refusal, key_refusal}
pub use Rattle.key_commands.specs.Overwriting.{HasNoKey, deletion_refusal, filler_size, pass_events, pass_sectors}
pub use Rattle.key_commands.specs.Random.{master_key_in, random_size, salt_in}
pub use Rattle.key_commands.specs.SetKey.{SetsKey}
pub use Rattle.key_commands.specs.Usable.{IsAccepted, IsUsable, OpensFirst, settings_for}
pub use Rattle.key_commands.specs.declared.options.InitOptions.{InitOptions}
pub use Rattle.key_components.specs.Answers.{IsAnswer, IsRefusal, KeepsFiles, LoadsEach, MayRefuse, MayRefusePassphrase, StopsAtFile, file_answer, refused, refused_word}
pub use Rattle.key_components.specs.Files.{file_limit, passphrase_limit}
pub use Rattle.key_components.specs.Key.{FitsWords, components_of}
pub use Rattle.key_slots.specs.Slots.{opened}
pub use Rattle.provider.specs.Attached.{Attached, IsKept, has_tags, media}
pub use Rattle.range_keys.specs.Keys.{le64}
pub use Rattle.range_keys.specs.Ring.{IsKeying}
pub use Rattle.resize_kill.specs.Killing.{HoldsNoMetadata, Kills, kill_events}
pub use Rattle.resize_kill.specs.Resizing.{Finds, HoldsOneOf, KeepsOneOf, RefusesOld, RefusesSizes, Resizes, grown, move_events, old_place, old_refusal, size_refusal}
pub use Rattle.resize_kill.specs.Trash.{TakesTrash, trash_sectors, trash_size}
pub use Rattle.sealing.specs.Sectors.{joined, units}
pub use Rattle.sector_runs.specs.Reading.{ReadsAs, ReadsFrom, StandFrom, data_reading, standing}
pub use Rattle.sector_runs.specs.Writing.{data_writes}
pub use Rattle.sha2.specs.Sha256.{sha256}
pub use Rattle.user_key.specs.Derivation.{user_key}
pub use Rattle.user_key.specs.Refusals.{key_refusal_of}
pub use Rattle.user_key.specs.declared.components.Components.{Components}
pub use Rattle.user_key.specs.declared.components.KeyFault.{KeyFault}
pub use Rattle.user_key.specs.declared.components.UserKey.{UserKey}
pub use Rattle.verify_sweep.specs.Parts.{cut_count, place_after, sectors_after, sweep_at}
pub use Rattle.verify_sweep.specs.Sweeping.{Fails, ListsFailing, Sweep, failing_units, faults_in, le64s, sectors_swept, unit_readings_at}
