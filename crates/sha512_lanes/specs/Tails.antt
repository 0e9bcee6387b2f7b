-- The last blocks of a message.
use Rattle.std.specs.Prelude.{ℕ, ◌+◌, ◌*◌, ◌/◌, ◌%◌}

-- how many bytes there are from the last whole block of a message of this length to the end of its padding, which has
-- 17 bytes at least: one block or two
abbrev pub last_blocks_size : ℕ → ℕ
last_blocks_size n = (n % 128 + 17 + 127) / 128 * 128
