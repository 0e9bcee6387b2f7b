-- What a disk that notes its events reports.
use Rattle.block_traits.specs.Disk.{DiskState}
use Rattle.crash_disk.specs.SparseDisk as sparse_disk
use Rattle.geli_cases.specs.declared.traced_disk.TracedDisk.{TracedDisk}

-- what the disk in it does
abbrev pub traced_disk_of : TracedDisk → DiskState
traced_disk_of traced = sparse_disk.sparse_disk_of traced.disk
