-- What an opener was asked, as it keeps it.
use Rattle.std.specs.Prelude.{List, map, string_bytes}
use Rattle.file_edge.specs.Asked.{Asked, FileRequest, Find, Look, Open, Make, Meet, Write, Sync, Rename, SyncFolder, Remove}
use Rattle.file_edge.specs.declared.ask.Ask.{Ask}
use Rattle.file_edge.specs.declared.ask.Ask.TheVariants as asks
use Rattle.file_edge.specs.declared.ask.KeptAsk.{KeptAsk}

-- the request that an opener keeps in this form
abbrev pub kept_request : Ask → FileRequest
kept_request (asks.Find name) = Find (string_bytes name)
kept_request (asks.Look name) = Look (string_bytes name)
kept_request (asks.Open how name) = Open how (string_bytes name)
kept_request (asks.Make mode name) = Make mode (string_bytes name)
kept_request (asks.Meet mode name) = Meet mode (string_bytes name)
kept_request (asks.Write bytes) = Write bytes.items
kept_request asks.Sync = Sync
kept_request (asks.Rename from to) = Rename (string_bytes from) (string_bytes to)
kept_request (asks.SyncFolder name) = SyncFolder (string_bytes name)
kept_request (asks.Remove name) = Remove (string_bytes name)

abbrev pub asked_of : KeptAsk → Asked
asked_of kept = record { request = kept_request kept.ask; done = kept.done }

-- what was asked, in order
abbrev pub kept_asks : List KeptAsk → List Asked
kept_asks asks = map asked_of asks
