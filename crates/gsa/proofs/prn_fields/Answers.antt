-- `prn_fields` meets its contract: each turn reads one item, and keeps what `Going` says of the items so far. The measure is
-- what is left of the text. Assumes nothing.
use mathlib.Core.Path.{ap}
use borrow.Author.Rules.{rules}
use Rattle.text.specs.Answer.{told, seen, held}
use Rattle.text.proofs.Places.{Took, took}
use Rattle.text.proofs.Finding.{not-found}
use Rattle.gsa.specs.Gsa.{item}
use Rattle.gsa.proofs.Never.{never-item}
use Rattle.gsa.proofs.Items.{start, stop, most, rest, at-most, free, cells-length, moves, dropped, skipped, taken}
use Rattle.gsa.proofs.prn_fields.Goals as goal

pub loop-item-init : goal.loop-item-init
loop-item-init c = start c.args.s.now c.args.at

pub loop-item-smaller-then-passed-eq-SATELLITES : goal.loop-item-smaller-then-passed-eq-SATELLITES
loop-item-smaller-then-passed-eq-SATELLITES c =
    let turn : (Took c.args.s.now c.loop-item.i item
    (held c.in-Ok.item) c.in-Ok.next) = took c.prn_field.ensures.reads (ap (told (seen held)) c.in-Ok.is) in
    moves c.loop-item.invariant turn

pub loop-item-preserved-then-passed-eq-SATELLITES : goal.loop-item-preserved-then-passed-eq-SATELLITES
loop-item-preserved-then-passed-eq-SATELLITES c =
    let turn : (Took c.args.s.now c.loop-item.i item
    (held c.in-Ok.item) c.in-Ok.next) = took c.prn_field.ensures.reads (ap (told (seen held)) c.in-Ok.is) in
    dropped c.loop-item.invariant turn c.if-passed-eq-SATELLITES.true

pub overflow_add-passed : goal.overflow_add-passed
overflow_add-passed c = let h = at-most c.loop-item.invariant in search rules

pub loop-item-smaller-in_default-item : goal.loop-item-smaller-in_default-item
loop-item-smaller-in_default-item c =
    let turn : (Took c.args.s.now c.loop-item.i item
    (held c.in-Ok.item) c.in-Ok.next) = took c.prn_field.ensures.reads (ap (told (seen held)) c.in-Ok.is) in
    moves c.loop-item.invariant turn

pub loop-item-preserved-in_default-item : goal.loop-item-preserved-in_default-item
loop-item-preserved-in_default-item c =
    let turn : (Took c.args.s.now c.loop-item.i item
    (held c.in-Ok.item) c.in-Ok.next) = took c.prn_field.ensures.reads (ap (told (seen held)) c.in-Ok.is) in
    skipped c.loop-item.invariant turn c.if-passed-eq-SATELLITES.false (ap held c.in_default-item.is)

pub offset_bounds-items-count : goal.offset_bounds-items-count
offset_bounds-items-count c =
    let h = free c.loop-item.invariant c.if-passed-eq-SATELLITES.false in
    search rules

pub bounds-items-count : goal.bounds-items-count
bounds-items-count c =
    let h = free c.loop-item.invariant c.if-passed-eq-SATELLITES.false in
    let l = cells-length c.loop-item.invariant in
    search rules

pub overflow_add-count : goal.overflow_add-count
overflow_add-count c =
    let h = free c.loop-item.invariant c.if-passed-eq-SATELLITES.false in
    search rules

pub loop-item-smaller : goal.loop-item-smaller
loop-item-smaller c =
    let turn : (Took c.args.s.now c.loop-item.i item
    (held c.in-Ok.item) c.in-Ok.next) = took c.prn_field.ensures.reads (ap (told (seen held)) c.in-Ok.is) in
    moves c.loop-item.invariant turn

pub loop-item-preserved : goal.loop-item-preserved
loop-item-preserved c =
    let turn : (Took c.args.s.now c.loop-item.i item
    (held c.in-Ok.item) c.in-Ok.next) = took c.prn_field.ensures.reads (ap (told (seen held)) c.in-Ok.is) in
    taken c.loop-item.invariant turn c.if-passed-eq-SATELLITES.false (ap held c.in-Some.is)

pub invariant_of-satellites : goal.invariant_of-satellites
invariant_of-satellites c = record { most = most c.loop-item.invariant; rest = rest c.loop-item.invariant }

pub returns : goal.returns
returns c = record { reads = stop c.loop-item.invariant (not-found (λ f. never-item) c.in_default.is c.prn_field.ensures) }
