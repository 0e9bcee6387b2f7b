-- What was opened, attached and served, as one.
use Rattle.std.proofs.Common.{◌≡◌, ◌∙◌, ◌⊎◌, inl, inr, Option, not, List, [], ◌∷◌, ℕ, Result, Ok, Err, IfOk, IfErr, OnErr, ap, subst, sym}
use Rattle.block_traits.specs.Cabinet.{CabinetState}
use Rattle.block_traits.specs.Disk.{DiskState}
use Rattle.block_traits.specs.Streams.{EntropyState, SinkState, SourceState, TookAll, TookPart}
use Rattle.block_traits.specs.declared.disk.Disk.{Ghosts}
use Rattle.reply_text.specs.Answer as answers
use Rattle.command_rows.specs.Turn.{Serves}
use Rattle.command_rows.specs.Vocabulary.{Attached, IsKeying, Refusal}
use Rattle.command_rows.specs.World.{Idle, IsAttached, Reach, reach_of}
use Rattle.command_words.specs.declared.commands.Command.{Command}
use Rattle.file_edge.specs.FileDisk as file
use Rattle.file_edge.specs.FileCabinet.{new_cabinet}
use Rattle.file_edge.specs.Names.{IsRandom, NamedFiles}
use Rattle.file_edge.specs.RandomFile.{left_in, new_entropy}
use Rattle.file_edge.specs.declared.file_disk.FileDisk.{FileDisk}
use Rattle.file_edge.specs.declared.found.FileId.{FileId}
use Rattle.file_edge.specs.declared.image_file.ImageFile as image_file
use Rattle.file_edge.specs.declared.opener.Opener as opener
use Rattle.file_edge.specs.declared.random_file.RandomFile.{RandomFile}
use Rattle.image_layers.proofs.Covered.{covered}
use Rattle.image_layers.proofs.Images.{opened_told}
use Rattle.image_layers.specs.Images.{OpensNamed, TellsImage, image_disk_state}
use Rattle.image_layers.specs.declared.image_disks.ImageDisk.{ImageDisk}
use Rattle.nbd_session.specs.Requests.{side_of}
use Rattle.reply_text.specs.Text.{refusal_text}
use Rattle.shelf.specs.Shelved.{attachment_of}
use Rattle.nbd_run.proofs.Attached.{left_by}
use Rattle.nbd_run.proofs.Ended.{endures}
use Rattle.nbd_run.specs.Attaching.{AttachesProvider}
use Rattle.nbd_run.specs.Program.{EndsWith, OpensAsked, ServesDisk, ServesImage, begins, remains, side_in, streams}
use Rattle.nbd_run.specs.Words.{AsksToAttach, attaches_readonly, wish_of}
use Rattle.nbd_run.specs.declared.status.Status.{Status}
use Rattle.nbd_run.specs.declared.status.Status.TheVariants.{SomeRefused}
use Rattle.nbd_run.specs.declared.words.Wish.TheVariants.{Other}

-- what attaching left, refused or served
pub served_disk : {D S K L : Type 0} (state : D → DiskState) (source : S → SourceState) (sink : K → SinkState) (log : L → SinkState) (line : List ℕ) (command : Command) (start : Reach)
    (attached : Result (Attached D) (D × Refusal)) (disk : D) (c : CabinetState) (e : EntropyState) (input rest : S) (output after : K) (silent logged : L) (status : Status)
    → IfOk attached (λ p. AttachesProvider state line command start p c e)
    → IfOk attached (λ p. IsKeying p.keying)
    → IfErr attached (λ refused. Serves line command start (answers.Refused refused.1) (reach_of (state refused.0) Idle c e))
    → IfOk attached (λ p. EndsWith (side_of p) (source input) (source rest) (sink output) (sink after) (log silent) (log logged) status (state p.disk) (state disk))
    → IfErr attached (λ refused. TookAll (refusal_text refused.1) (log silent) (log logged) ⊎ TookPart (refusal_text refused.1) (log silent) (log logged))
    → IfErr attached (λ refused. disk ≡ refused.0)
    → OnErr attached (status ≡ SomeRefused)
    → OnErr attached ((rest ≡ input) × (after ≡ output))
    → ServesDisk line command start (streams (source input) (sink output) (log silent)) status (remains (state disk) c e) (streams (source rest) (sink after) (log logged))
served_disk state source sink log line command start (Ok p) disk c e input rest output after silent logged status attaches keying refuses ends logs gone is untaken =
    inr (record { attachment = attachment_of attaches.queue p; middle = state p.disk; row = attaches.row; keying = keying; ends = ends })
served_disk {D} state source sink log line command start (Err refused) disk c e input rest output after silent logged status attaches keying refuses ends logs gone is untaken =
    let left : D → Type 0 = λ d. Serves line command start (answers.Refused refused.1) (reach_of (state d) Idle c e) in
    inl (record {
      refusal = refused.1;
      row = subst left (sym gone) refuses;
      logged = record { log = logs; source = ap source untaken.0; sink = ap sink untaken.1 };
      status_is = is;
    })

module _ {O F : Type 0} {g : Ghosts (FileDisk F)} (o : opener.Ghosts O F) (f : image_file.Ghosts F) (words : List (List ℕ)) (before opened : O) (name line : List ℕ) (command : Command)
    (disk : ImageDisk F g) (files : List FileId) (random : RandomFile F) (cabinet : CabinetState) (entropy : EntropyState) (wish : wish_of words ≡ Other) (asks : AsksToAttach words name line command)
    (opens : OpensNamed o f (not (attaches_readonly command)) (name ∷ []) (disk ∷ []) files random before opened) (tells : TellsImage f.told disk)
    (cabinet_is : cabinet ≡ new_cabinet files (o.told opened)) (entropy_is : entropy ≡ new_entropy (left_in f.left random.device)) where
  -- names have what they had, and the random bytes are those that were reported
  told : (o.told opened ≡ o.told before) × IsRandom (o.told before) (left_in f.left random.device)
  told = opened_told o f (not (attaches_readonly command)) (name ∷ []) (disk ∷ []) files random before opened opens

  asked : OpensAsked g o f words before
  asked = record { name = name; line = line; command = command; asks = asks; disk = disk; files = files; random = random; opened = opened; opens = opens; telling = tells; device = told.1 }

  -- a row from what was opened is one from what was reported
  from_told : (answer : answers.Answer) (new : Reach) → Serves line command (reach_of (image_disk_state disk) Idle cabinet entropy) answer new → Serves line command (begins g o f asked) answer new
  unfolding asked
  from_told answer new row =
      let same : cabinet ≡ new_cabinet files (o.told before) = cabinet_is ∙ ap (λ (t : Option NamedFiles). new_cabinet files t) told.0 in
      subst (λ (c : CabinetState). Serves line command (reach_of (image_disk_state disk) Idle c (new_entropy (left_in f.left random.device))) answer new) same
      (subst (λ (e : EntropyState). Serves line command (reach_of (image_disk_state disk) Idle cabinet e) answer new) entropy_is row)

  pub served_image : (same : (d : FileDisk F) → (g.state d).content ≡ (file.file_disk_state f.told d).content) (d : DiskState) (c : CabinetState) (e : EntropyState)
      (source rest : SourceState) (sink after log logged : SinkState) (status : Status)
      → ServesDisk line command (reach_of (image_disk_state disk) Idle cabinet entropy) (streams source sink log) status (remains d c e) (streams rest after logged)
      → ServesImage g o f words before (streams source sink log) status (remains d c e) (streams rest after logged)
  unfolding asked
  served_image same d c e source rest sink after log logged status (inl h) = record {
    wish = wish;
    opens = asked;
    outcome = inl (record { refusal = h.refusal; row = from_told (answers.Refused h.refusal) (reach_of d Idle c e) h.row; logged = h.logged; status_is = h.status_is });
  }
  served_image same d c e source rest sink after log logged status (inr h) =
      let reached = reach_of h.middle (IsAttached h.attachment) c e in
      let quiet = (left_by line command (image_disk_state disk) cabinet entropy answers.Done reached asks.verb h.row).quiet in
      record {
        wish = wish;
        opens = asked;
        outcome = inr (record {
          served = record { attachment = h.attachment; middle = h.middle; row = from_told answers.Done reached h.row; keying = h.keying; ends = h.ends };
          endures = endures f.told same disk (side_in h.attachment) source rest sink after log logged status h.middle d h.keying tells quiet h.ends;
          covered = λ disk is. covered f.told same disk;
        });
      }
