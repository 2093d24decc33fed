-- The routes, and what a path leads to.
use Rattle.std.specs.Prelude.{ℕ, List, [], drop, codes, Option, Some, option_map, Result, Ok, Err, ◌==◌}
use Rattle.std.specs.List.{before_first}
use Rattle.std.specs.Option.{option_and_then}
use Rattle.matchit.specs.Rows.{RowsOf}
use Rattle.matchit.specs.Route.{Scan, parse_route}
use Rattle.matchit.specs.Router.{RouteOf, route_from}
use Rattle.matchit.specs.Order.{placed}
use Rattle.matchit.specs.Seek.{first}
use Rattle.matchit.specs.declared.error.InsertError.{InsertError}
use Rattle.sg_lines.specs.Words.{decimal_of}
use Rattle.sg_http.specs.declared.routes.Route.{Route}
use Rattle.sg_http.specs.declared.routes.Route.TheVariants as route
use Rattle.sg_http.specs.declared.routes.Place.{Place}
use Rattle.sg_http.specs.declared.routes.Place.TheVariants as place

-- one more route, given by its text
abbrev pub with_scan : Result Scan InsertError → Route → RowsOf (RouteOf Route) → RowsOf (RouteOf Route)
with_scan (Ok scan) value rows = placed (scan.pattern, route_from scan value) rows
with_scan (Err e) value rows = rows

abbrev pub with_route : List ℕ → Route → RowsOf (RouteOf Route) → RowsOf (RouteOf Route)
with_route text = with_scan (parse_route text)

-- the three routes
unfoldable pub routes : RowsOf (RouteOf Route)
routes = with_route (codes "/totals") route.Totals (with_route (codes "/receipt/{ballot}") route.Receipt (with_route (codes "/ask") route.Ask []))

-- the path of a target: what stands before its first question mark
abbrev pub path_of : List ℕ → List ℕ
path_of target = before_first (λ b. b == 63) target

-- what a route makes of its path: the ballot of a receipt is a number in its one spelling
abbrev pub place_on : List ℕ → Route → Option Place
place_on path route.Ask = Some place.Ask
place_on path route.Receipt = option_map place.Receipt (decimal_of (drop 9 path))
place_on path route.Totals = Some place.Totals

-- what a path leads to
abbrev pub place_of : List ℕ → Option Place
place_of path = option_and_then (λ found. place_on path found.value) (first routes path)
