-- What the disk of a drawer of a run reports.
use Rattle.block_traits.specs.Disk.{DiskState}
use Rattle.disk_layers.specs.ConcatDisk as concat
use Rattle.provider_disk.specs.ProviderDisk as provider_disk
use Rattle.disk_layers.specs.WriteBehind as write_behind
use Rattle.geli_cases.specs.TracedDisk as traced
use Rattle.geli_cases.specs.declared.run_disk.RunDisk.{RunDisk}
use Rattle.geli_cases.specs.declared.run_disk.RunDisk.TheVariants.{Plain, Behind, Join, Provider}

-- what the disk of its variant does
abbrev pub run_disk_state : RunDisk → DiskState
run_disk_state (Plain disk) = traced.traced_disk_of disk
run_disk_state (Behind behind) = write_behind.behind_disk_of behind
run_disk_state (Join both) = concat.concat_disk_of both
run_disk_state (Provider upon) = provider_disk.provider_disk_of traced.traced_disk_of upon
