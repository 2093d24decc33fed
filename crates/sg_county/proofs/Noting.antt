-- What is kept of one part more.
use Rattle.std.proofs.Common.{◌≡◌, ℕ, ◌+◌, ◌==◌, false, true, List, [], ◌∷◌, ◌++◌, length, map, Option, Some, None, sym, subst, ap, ◌∙◌, arith}
use Rattle.std.specs.Option.{option_map_or}
use Rattle.std.proofs.lemmas.Bool.{ne_eqb}
use Rattle.std.proofs.lemmas.List.{map_push}
use Rattle.sg_commit.specs.declared.Digest.{Digest}
use Rattle.sg_record.specs.Laws.{AreLinesOf}
use Rattle.sg_record.specs.declared.record.Record.{Record}
use Rattle.sg_county.proofs.Closing.{kept_count}
use Rattle.sg_county.proofs.PartRecords.{record_behind, record_races, record_seal}
use Rattle.sg_county.specs.County.{first_seal_of}
use Rattle.sg_county.specs.inside.Keeping.{FirstRaces, IsNoted, Keeps, races_of}
use Rattle.sg_county.specs.declared.kept.Kept.{Kept}
use Rattle.sg_judge.specs.FirstSeal.{first_seal}
use Rattle.sg_judge.specs.Pass.{is_behind_plan}
use Rattle.sg_plan.specs.declared.plan.Race.{Race}

-- the races that are kept: those given, or else those of before
abbrev races_kept : Option (List Race) → List Race → List Race
races_kept races old = option_map_or (λ given. given) races old

races_at : (old : Kept) (races : Option (List Race)) (posted : Record) (before : List Record) (number : ℕ) → number ≡ length before + 1
    → (number ≡ 1 → races ≡ Some posted.plan.races) → ((number == 1) ≡ false → races ≡ None)
    → FirstRaces old.races before → FirstRaces (races_kept races old.races) (before ++ posted ∷ [])
races_at old races posted [] number count first other is = ap (λ (o : Option (List Race)). races_kept o old.races) (first (omega (arith, count)))
races_at old races posted (x ∷ before) number count first other is = ap (λ (o : Option (List Race)). races_kept o old.races) (other (ne_eqb number 1 (λ one. omega (arith, count, one)))) ∙ is

-- the seal is noted, and the races of the first record
pub noted_is : (old new : Kept) (races : Option (List Race)) (seal : Option Digest) (before : List Record) (part : List (List ℕ)) (posted : Record) (number : ℕ)
    → new ≡ record { races = option_map_or (λ given. given) races old.races; sums = old.sums; seals = old.seals ++ seal ∷ [] }
    → Keeps old before → AreLinesOf part posted → number ≡ length old.seals + 1 → seal ≡ first_seal part
    → (number ≡ 1 → is_behind_plan part ≡ true → races ≡ Some (races_of part)) → ((number == 1) ≡ false → races ≡ None) → IsNoted old new before posted
noted_is old new races seal before part posted number is keeps are number_is sealed first other = record {
  races =
      subst (λ (k : Kept). FirstRaces k.races (before ++ posted ∷ [])) (sym is)
      (races_at old races posted before number (omega (arith, number_is, kept_count old before keeps))
      (λ one. first one (record_behind part posted are) ∙ ap (λ (r : List Race). Some r) (record_races part posted are)) other keeps.races);
  sums = ap (λ (k : Kept). k.sums) is;
  seals = ap (λ (k : Kept). k.seals) is
      ∙ (ap (λ (l : List (Option Digest)). l ++ seal ∷ []) keeps.seals
      ∙ (ap (λ (s : Option Digest). map first_seal_of before ++ s ∷ []) (sealed ∙ record_seal part posted are) ∙ sym (map_push first_seal_of before posted)));
}
