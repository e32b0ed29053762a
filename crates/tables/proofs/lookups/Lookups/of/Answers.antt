-- The places of a table's part stand at the front of what is lent.
use native.Mathlib.Omega.{arith}
use Rattle.tables.proofs.LentLaws.{places-in, lookup-found, lies-of}
use Rattle.tables.proofs.lookups.Lookups.of.Goals as goal

pub element-requires : goal.element-requires
element-requires g c =
    let l = c.args.self.now.lent c.args.t c.requires.0 c.requires.1 in
    let h = places-in c.args.t (omega (arith, c.args.self.now.known)) l c.part_of-part.ensures in
    omega arith

pub element-requires-2 : goal.element-requires-2
element-requires-2 g c =
    let l = c.args.self.now.lent c.args.t c.requires.0 c.requires.1 in
    places-in c.args.t (omega (arith, c.args.self.now.known)) l c.part_of-part.ensures

pub returns : goal.returns
returns g c =
    let l = c.args.self.now.lent c.args.t c.requires.0 c.requires.1 in
    let e = lookup-found c.args.t (omega (arith, c.args.self.now.known)) l c.part_of-part.ensures c.element.ensures.0
    c.element-2.ensures.0 c.first_bits.ensures in
    (e, lies-of c.args.t (omega (arith, c.args.self.now.known)) l e)
