-- The JSON reading of bytes: the value that the whole of them is.
use Rattle.std.specs.Prelude.{ℕ, List, Option, None, if◌then◌else◌}
use Rattle.std.specs.Str.{is_utf8}
use Rattle.serde_json.specs.Data.{Data}
use Rattle.serde_json.specs.Read.{read}

-- the value that the bytes are, where they are UTF-8 and JSON of depth at most 127; of a name that comes twice in an
-- object the last value stays
unfoldable pub json_of : List ℕ → Option Data
json_of bytes = if is_utf8 bytes then read bytes else None
