use Rattle.sg_county.proofs.Closing.{found_is}
use Rattle.sg_county.proofs.kept.Kept.find.Goals as goal

pub returns-clause-is : goal.returns-clause-is
returns-clause-is c = λ fine before part posted keeps taken are.
    found_is c.args.self.now before part posted c.number-number.result c.has_races.result c.first_equal_seal.result c.first_seal.result keeps are c.number-number.ensures c.has_races.ensures.first
    (λ other behind yes. c.has_races.ensures.same other fine part taken behind yes) (λ other behind no. c.has_races.ensures.differs other fine part taken behind no)
    (c.first_seal.ensures.is fine part taken) c.first_equal_seal.ensures
