-- The first bad table, and that nothing is bad.
use Rattle.std.proofs.Common.{◌≡◌, ℕ, true, List, [], ◌∷◌, ◌++◌, length, map, Option, Some, None, refl, ap, ◌∙◌}
use Rattle.std.specs.Prelude.{ℤ}
use Rattle.std.specs.List.{filter_map}
use Rattle.std.specs.Str.{is_utf8}
use Rattle.sg_plan.specs.Limits.{first_bad, first_of}
use Rattle.sg_desks.specs.ActReading.{act_in}
use Rattle.sg_keeper.specs.declared.rows.Rows.{Rows}
use Rattle.sg_keeper.specs.declared.setup.Setup.{Setup}
use Rattle.sg_histories.specs.ValidRows.{at_table, ballot_keeps, ballot_text, claim_keeps, claim_text, damage_of, done_fault, is_drawn_in, stage_keeps, stage_text, station_of, told_by, void_keeps, void_text}
use Rattle.sg_open.specs.declared.fault.OpenFault.{OpenFault}
use Rattle.sg_open.specs.inside.Finding.{IsDamage, found_after, nothing_found, void_passes}
use Rattle.sg_open.proofs.Steps.{damage_first}
use Rattle.sg_open.proofs.Tables.{all_fit, found_told, same_fault, told_in_order}
use Rattle.sg_open.proofs.VoidTests.{found_scanners, void_bad}

abbrev pub five : Option ℕ → Option ℕ → Option ℕ → Option ℕ → Option ℕ → Option (ℕ × ℕ)
five a b c d e = first_of (at_table 2 a ∷ at_table 3 b ∷ at_table 4 c ∷ at_table 5 d ∷ at_table 6 e ∷ [])

second : (told : OpenFault) (a b c d e : Option ℕ) → a ≡ None → IsDamage told (at_table 3 b) → IsDamage told (five a b c d e)
second told None b c d e p is = damage_first told (at_table 3 b) (at_table 4 c ∷ at_table 5 d ∷ at_table 6 e ∷ []) is
second told (Some x) b c d e p is = cc

third : (told : OpenFault) (a b c d e : Option ℕ) → a ≡ None → b ≡ None → IsDamage told (at_table 4 c) → IsDamage told (five a b c d e)
third told None None c d e p q is = damage_first told (at_table 4 c) (at_table 5 d ∷ at_table 6 e ∷ []) is
third told None (Some x) c d e p q is = cc
third told (Some x) b c d e p q is = cc

fourth : (told : OpenFault) (a b c d e : Option ℕ) → a ≡ None → b ≡ None → c ≡ None → IsDamage told (at_table 5 d) → IsDamage told (five a b c d e)
fourth told None None None d e p q r is = damage_first told (at_table 5 d) (at_table 6 e ∷ []) is
fourth told None None (Some x) d e p q r is = cc
fourth told None (Some x) c d e p q r is = cc
fourth told (Some x) b c d e p q r is = cc

fifth : (told : OpenFault) (a b c d e : Option ℕ) → a ≡ None → b ≡ None → c ≡ None → d ≡ None → IsDamage told (at_table 6 e) → IsDamage told (five a b c d e)
fifth told None None None None e p q r s is = damage_first told (at_table 6 e) [] is
fifth told None None None (Some x) e p q r s is = cc
fifth told None None (Some x) d e p q r s is = cc
fifth told None (Some x) c d e p q r s is = cc
fifth told (Some x) b c d e p q r s is = cc

nothing : (a b c d e : Option ℕ) → a ≡ None → b ≡ None → c ≡ None → d ≡ None → e ≡ None → five a b c d e ≡ None
nothing None None None None None p q r s t = refl
nothing (Some x) b c d e p q r s t = cc
nothing None (Some x) c d e p q r s t = cc
nothing None None (Some x) d e p q r s t = cc
nothing None None None (Some x) e p q r s t = cc
nothing None None None None (Some x) p q r s t = cc

-- the tests of each table
abbrev pub bad_ballots : Setup → Rows → Option ℕ
bad_ballots setup rows = first_bad (ballot_keeps setup.plan (act_in setup.plan.version)) [] rows.ballots

abbrev pub bad_stages : Setup → Rows → Option ℕ
bad_stages setup rows = first_bad (stage_keeps setup.plan (act_in setup.plan.version)) [] rows.stages

abbrev pub bad_claims : Setup → Rows → Option ℕ
bad_claims setup rows = first_bad (claim_keeps setup.plan (is_drawn_in rows)) [] rows.claims

abbrev pub bad_dones : Setup → Rows → Option ℕ
bad_dones setup rows = done_fault (length setup.secrets) (told_by setup.plan.version rows) rows.dones

abbrev pub bad_voids : Setup → Rows → Option ℕ
bad_voids setup rows = first_bad (void_keeps setup.plan.version rows) [] rows.voids

abbrev pub damage : Setup → Rows → Option (ℕ × ℕ)
damage setup rows = damage_of setup (act_in setup.plan.version) rows

pub of_ballots : (setup : Setup) (rows : Rows) (told : OpenFault) → IsDamage told (at_table 2 (bad_ballots setup rows)) → IsDamage told (damage setup rows)
unfolding damage_of
of_ballots setup rows told is = damage_first told (at_table 2 (bad_ballots setup rows)) (at_table 3 (bad_stages setup rows) ∷ at_table 4 (bad_claims setup rows) ∷ at_table 5 (bad_dones setup rows) ∷ at_table 6 (bad_voids setup rows) ∷ []) is

pub of_stages : (setup : Setup) (rows : Rows) (told : OpenFault) → bad_ballots setup rows ≡ None → IsDamage told (at_table 3 (bad_stages setup rows)) → IsDamage told (damage setup rows)
unfolding damage_of
of_stages setup rows told a is = second told (bad_ballots setup rows) (bad_stages setup rows) (bad_claims setup rows) (bad_dones setup rows) (bad_voids setup rows) a is

pub of_claims : (setup : Setup) (rows : Rows) (told : OpenFault) → bad_ballots setup rows ≡ None → bad_stages setup rows ≡ None → IsDamage told (at_table 4 (bad_claims setup rows)) → IsDamage told (damage setup rows)
unfolding damage_of
of_claims setup rows told a b is = third told (bad_ballots setup rows) (bad_stages setup rows) (bad_claims setup rows) (bad_dones setup rows) (bad_voids setup rows) a b is

pub of_dones : (setup : Setup) (rows : Rows) (told : OpenFault) → bad_ballots setup rows ≡ None → bad_stages setup rows ≡ None → bad_claims setup rows ≡ None → IsDamage told (at_table 5 (bad_dones setup rows)) → IsDamage told (damage setup rows)
unfolding damage_of
of_dones setup rows told a b c is = fourth told (bad_ballots setup rows) (bad_stages setup rows) (bad_claims setup rows) (bad_dones setup rows) (bad_voids setup rows) a b c is

pub of_voids : (setup : Setup) (rows : Rows) (told : OpenFault) → bad_ballots setup rows ≡ None → bad_stages setup rows ≡ None → bad_claims setup rows ≡ None → bad_dones setup rows ≡ None → IsDamage told (at_table 6 (bad_voids setup rows)) → IsDamage told (damage setup rows)
unfolding damage_of
of_voids setup rows told a b c d is = fifth told (bad_ballots setup rows) (bad_stages setup rows) (bad_claims setup rows) (bad_dones setup rows) (bad_voids setup rows) a b c d is

pub of_none : (setup : Setup) (rows : Rows) → bad_ballots setup rows ≡ None → bad_stages setup rows ≡ None → bad_claims setup rows ≡ None → bad_dones setup rows ≡ None → bad_voids setup rows ≡ None → damage setup rows ≡ None
unfolding damage_of
of_none setup rows a b c d e = nothing (bad_ballots setup rows) (bad_stages setup rows) (bad_claims setup rows) (bad_dones setup rows) (bad_voids setup rows) a b c d e

-- the texts that were gathered are judged as those of the tables
pub gathered : (setup : Setup) (rows : Rows) (stations : List ℕ → Option ℤ) (told : List (List ℕ)) → bad_ballots setup rows ≡ None
    → told ≡ (((found_after setup.plan stations (nothing_found setup.plan) rows.ballots).told ++ map stage_text rows.stages) ++ filter_map (claim_text setup.plan.version) rows.claims) ++ filter_map (void_text setup.plan.version) rows.voids
    → done_fault (length setup.secrets) told rows.dones ≡ bad_dones setup rows
gathered setup rows stations told good is =
    let ballots : (found_after setup.plan stations (nothing_found setup.plan) rows.ballots).told ≡ filter_map ballot_text rows.ballots
    = found_told setup.plan stations (nothing_found setup.plan) rows.ballots (all_fit setup.plan rows.ballots good) in
    ap (λ (t : List (List ℕ)). done_fault (length setup.secrets) t rows.dones)
    (is ∙ ap (λ (t : List (List ℕ)). ((t ++ map stage_text rows.stages) ++ filter_map (claim_text setup.plan.version) rows.claims) ++ filter_map (void_text setup.plan.version) rows.voids) ballots)
    ∙ same_fault (length setup.secrets) (((filter_map ballot_text rows.ballots ++ map stage_text rows.stages) ++ filter_map (claim_text setup.plan.version) rows.claims) ++ filter_map (void_text setup.plan.version) rows.voids)
    (told_by setup.plan.version rows) rows.dones (told_in_order setup.plan.version rows)

-- and the voids by what was found
pub voided : (setup : Setup) (rows : Rows) (stations : List ℕ → Option ℤ) → ((text : List ℕ) → is_utf8 text ≡ true → stations text ≡ station_of text rows.dones) → bad_ballots setup rows ≡ None
    → first_bad (void_passes setup.plan.version stations (found_after setup.plan stations (nothing_found setup.plan) rows.ballots).scanners) [] rows.voids ≡ bad_voids setup rows
voided setup rows stations first good =
    void_bad setup.plan stations rows (found_after setup.plan stations (nothing_found setup.plan) rows.ballots).scanners
    (found_scanners setup.plan stations rows.dones rows.ballots first good) first
