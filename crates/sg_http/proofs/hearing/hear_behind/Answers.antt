-- The head stays at the front of the bytes read, and the body stands behind it.
use Rattle.std.proofs.Common.{arith, ◌≡◌, ◌≤◌, ◌+◌, length, take, length-take}
use Rattle.sg_http.proofs.HearLemmas.{few_behind, few_in_head, heard_head, leads_posts, leads_short, unheard}
use Rattle.sg_http.proofs.hearing.hear_behind.Goals as goal

pub returns-in-All-clause-hears : goal.returns-in-All-clause-hears
returns-in-All-clause-hears g c =
    let at = c.requires.of in
    let rest = c.read_rest-rest in
    let text = take rest.result.end rest.new.buf in
    let ends = rw c.in-All.is at rest.ensures.ends in
    let has = heard_head c.args.buf.now rest.new.buf c.args.end rest.result.end c.args.headers.now c.args.spans.now at.0 rest.ensures.order rest.ensures.front c.requires.headers c.requires.within at.1 in
    let all : c.args.spans.now.len + c.in-Body.count ≤ length text = omega (arith, ends.0, rest.ensures.bounds, length-take rest.result.end rest.new.buf) in
    (omega arith, all, leads_posts text at.0 c.args.spans.now.len c.in-Body.count rest.result.is_ended has (c.in-Body.ensures.exact at.0 at.1) all)

pub returns-in-Part-clause-hears : goal.returns-in-Part-clause-hears
returns-in-Part-clause-hears g c =
    let at = c.requires.of in
    let rest = c.read_rest-rest in
    let text = take rest.result.end rest.new.buf in
    let ends = rw c.in-Part.is at rest.ensures.ends in
    let has = heard_head c.args.buf.now rest.new.buf c.args.end rest.result.end c.args.headers.now c.args.spans.now at.0 rest.ensures.order rest.ensures.front c.requires.headers c.requires.within at.1 in
    let size : length text ≡ rest.result.end = omega (arith, rest.ensures.bounds, length-take rest.result.end rest.new.buf) in
    let within : c.args.spans.now.len ≤ length text = omega (arith, size, c.requires.within.section.len_fits, rest.ensures.order, length-take c.args.end c.args.buf.now) in
    leads_short text at.0 c.args.spans.now.len c.in-Body.count rest.result.is_ended has (c.in-Body.ensures.exact at.0 at.1) within (omega (arith, size, ends.0)) ends.1

pub returns-in-Failed-clause-hears : goal.returns-in-Failed-clause-hears
returns-in-Failed-clause-hears g c =
    let at = c.requires.of in
    let rest = c.read_rest-rest in
    let text = take rest.result.end rest.new.buf in
    let ends = rw c.in-Failed.is at rest.ensures.ends in
    let has = heard_head c.args.buf.now rest.new.buf c.args.end rest.result.end c.args.headers.now c.args.spans.now at.0 rest.ensures.order rest.ensures.front c.requires.headers c.requires.within at.1 in
    let size : length text ≡ rest.result.end = omega (arith, rest.ensures.bounds, length-take rest.result.end rest.new.buf) in
    let within : c.args.spans.now.len ≤ length text = omega (arith, size, c.requires.within.section.len_fits, rest.ensures.order, length-take c.args.end c.args.buf.now) in
    (unheard text at.0 c.args.spans.now.len c.in-Body.count has (c.in-Body.ensures.exact at.0 at.1) within (omega (arith, size, ends.0)), ends.1)

pub returns-in-Refused-clause-few : goal.returns-in-Refused-clause-few
returns-in-Refused-clause-few g c = few_in_head c.args.buf.now c.args.end c.requires.end

pub returns-in-Sees-clause-few : goal.returns-in-Sees-clause-few
returns-in-Sees-clause-few g c = few_in_head c.args.buf.now c.args.end c.requires.end

pub returns-in-All-clause-few : goal.returns-in-All-clause-few
returns-in-All-clause-few g c =
    let at = c.requires.of in
    let rest = c.read_rest-rest in
    let has = heard_head c.args.buf.now rest.new.buf c.args.end rest.result.end c.args.headers.now c.args.spans.now at.0 rest.ensures.order rest.ensures.front c.requires.headers c.requires.within at.1 in
    let within : c.args.spans.now.len ≤ c.args.end = omega (arith, c.requires.within.section.len_fits, length-take c.args.end c.args.buf.now) in
    few_behind rest.new.buf at.0 c.args.spans.now.len c.in-Body.count c.args.end rest.result.end has (c.in-Body.ensures.exact at.0 at.1) within c.requires.end c.in-Body.ensures.most rest.ensures.most

pub returns-in-Part-clause-few : goal.returns-in-Part-clause-few
returns-in-Part-clause-few g c =
    let at = c.requires.of in
    let rest = c.read_rest-rest in
    let has = heard_head c.args.buf.now rest.new.buf c.args.end rest.result.end c.args.headers.now c.args.spans.now at.0 rest.ensures.order rest.ensures.front c.requires.headers c.requires.within at.1 in
    let within : c.args.spans.now.len ≤ c.args.end = omega (arith, c.requires.within.section.len_fits, length-take c.args.end c.args.buf.now) in
    few_behind rest.new.buf at.0 c.args.spans.now.len c.in-Body.count c.args.end rest.result.end has (c.in-Body.ensures.exact at.0 at.1) within c.requires.end c.in-Body.ensures.most rest.ensures.most

pub returns-in-Failed-clause-few : goal.returns-in-Failed-clause-few
returns-in-Failed-clause-few g c =
    let at = c.requires.of in
    let rest = c.read_rest-rest in
    let has = heard_head c.args.buf.now rest.new.buf c.args.end rest.result.end c.args.headers.now c.args.spans.now at.0 rest.ensures.order rest.ensures.front c.requires.headers c.requires.within at.1 in
    let within : c.args.spans.now.len ≤ c.args.end = omega (arith, c.requires.within.section.len_fits, length-take c.args.end c.args.buf.now) in
    few_behind rest.new.buf at.0 c.args.spans.now.len c.in-Body.count c.args.end rest.result.end has (c.in-Body.ensures.exact at.0 at.1) within c.requires.end c.in-Body.ensures.most rest.ensures.most
