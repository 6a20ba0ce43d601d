-- `put_entry` meets its contract: eight words, two at a time. Assumes nothing.
use Rattle.std.proofs.Common.{ℕ, ◌+◌, ◌*◌, get_or, refl, arith, length-set}
use Rattle.gather.specs.Words.{number_of}
use Rattle.capi.proofs.Lending.{entry-room, entry-stored}
use Rattle.capi.proofs.lend.put_entry.Goals as goal

pub bounds-out-to-2 : goal.bounds-out-to-2
bounds-out-to-2 c = let a = c.args in omega (arith, c.requires.room, c.requires.cell, length-set a.out.now (5 + a.i * 8) 1)

pub put_option-requires : goal.put_option-requires
put_option-requires c =
    let a = c.args in
    let p = c.requires in
    record { room = entry-room a.out.now a.i (get_or a.row.now (4 + a.i * 4) 0) 2 p.cell p.room (omega arith); near = omega (arith, p.cell) }

pub put_option-requires-2 : goal.put_option-requires-2
put_option-requires-2 c =
    let a = c.args in
    let p = c.requires in
    let n = entry-room a.out.now a.i (get_or a.row.now (4 + a.i * 4) 0) 4 p.cell p.room (omega arith) in
    record { room = omega (arith, n); near = omega (arith, p.cell) }

pub put_option-requires-3 : goal.put_option-requires-3
put_option-requires-3 c =
    let a = c.args in
    let p = c.requires in
    let n = entry-room a.out.now a.i (get_or a.row.now (4 + a.i * 4) 0) 6 p.cell p.room (omega arith) in
    record { room = omega (arith, n); near = omega (arith, p.cell) }

pub returns : goal.returns
returns c =
    let a = c.args in
    let w : ℕ → ℕ = λ k. get_or a.row.now (4 + a.i * 4 + k) 0 in
    entry-stored a.out.now _ _ _ _ (5 + a.i * 8) (get_or a.row.now (4 + a.i * 4) 0) (number_of (w 1)) (number_of (w 2)) (number_of (w 3)) refl c.put_option.ensures c.put_option-2.ensures c.put_option-3.ensures
