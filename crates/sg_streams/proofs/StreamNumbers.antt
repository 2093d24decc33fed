-- The number of a stream tells its purpose, race and index.
use Rattle.std.proofs.Common.{◌≡◌, arith}
use Rattle.sg_streams.specs.Laws.{StreamNumbersAreOneToOne}

pub stream_numbers_are_one_to_one : StreamNumbersAreOneToOne
stream_numbers_are_one_to_one purpose other_purpose race other_race index other_index race_fits other_race_fits index_fits other_index_fits same =
    let purposes : purpose ≡ other_purpose = omega arith in
    let races : race ≡ other_race = omega arith in
    (purposes, races, omega arith)
