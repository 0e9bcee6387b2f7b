-- How much a request may ask for.
use Rattle.std.specs.Prelude.{ℕ}

-- the most bytes of a request
abbrev pub request_limit : ℕ
request_limit = 131072
