-- The flush of the provider is that of the disk upon it.
use Rattle.std.proofs.Common.{[], ◌∷◌, refl}
use Rattle.block_traits.specs.declared.disk.Event.TheVariants.{Flush}
use Rattle.provider_disk.proofs.UponLemmas.{upon_one, logs_upon, fails_upon, ok_so, err_so}
use Rattle.provider_disk.proofs.provider_disk.ProviderDiskDisk.flush.Goals as goal

pub returns-clause-ok : goal.returns-clause-ok
returns-clause-ok g c =
    ok_so c.flush.result (λ logs. logs_upon c.args.self.now.on.keying (Flush ∷ []) (Flush ∷ []) refl (upon_one refl refl refl refl refl) (upon_one c.flush.ensures.kept.keying refl refl refl refl) logs) c.flush.ensures.ok

pub returns-clause-err : goal.returns-clause-err
returns-clause-err g c =
    err_so c.flush.result (λ fails. fails_upon c.args.self.now.on.keying (Flush ∷ []) (Flush ∷ []) refl (upon_one refl refl refl refl refl) (upon_one c.flush.ensures.kept.keying refl refl refl refl) fails) c.flush.ensures.err
