-- The records of a scanner file: those of RFC 4180, read as follows. A comma stands between two fields, and a field may
-- stand in double quotes, within which a doubled one is one. A record ends at CR, at LF or at CR LF, or at the end of the
-- file; a line without a byte is none. A byte order mark at the start of the file is left out.
use Rattle.std.specs.Prelude.{◌≡◌, ℕ, List, ◌∷◌, ◌++◌}
use Rattle.csv.specs.Reading.{default_config, records, strip_bom}

-- the records of these bytes, each the list of its fields
abbrev pub records_of : List ℕ → List (List (List ℕ))
records_of bytes = records default_config (strip_bom bytes)

-- these records come first, and at least one more behind them
abbrev pub StartsWith : List (List (List ℕ)) → List (List (List ℕ)) → Type 0
StartsWith front all = (next : List (List ℕ)) × (more : List (List (List ℕ))) × (all ≡ front ++ next ∷ more)
