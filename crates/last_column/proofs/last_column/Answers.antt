-- The columns that a walk would take are the touched ones, so that the last of them, counted from the first end, is the line's last.
use Rattle.std.proofs.Common.{ap, sym, ◌*◌, ◌≤◌, ◌<◌, Ok, arith}
use Rattle.std.proofs.lemmas.Bool.Decides.{nat_tests}
use Rattle.last_column.proofs.Column.{column-lawful, none_last, is_last}
use Rattle.last_column.proofs.last_column.Goals as goal

pub frame_of-f-requires : goal.frame_of-f-requires
frame_of-f-requires c =
    let a = c.args in
    (column-lawful a.w a.h a.clip a.line (sym (rw c.in_ok-check_column.was at c.check_column.ensures))).1

pub columns_of-span-requires : goal.columns_of-span-requires
columns_of-span-requires c =
    let a = c.args in
    let both = column-lawful a.w a.h a.clip a.line (sym (rw c.in_ok-check_column.was at c.check_column.ensures)) in
    (rw c.view_of.ensures both.0, c.frame_of-f.ensures)

pub returns-then-is_empty : goal.returns-then-is_empty
returns-then-is_empty c =
    let a = c.args in
    let span = c.columns_of-span.result in
    let clear = sym (rw c.in_ok-check_column.was at c.check_column.ensures) in
    let both = column-lawful a.w a.h a.clip a.line clear in
    let empty : span.end ≤ span.from = grind (arith, nat_tests) in
    rw clear
    (ap (λ r. Ok r)
    (none_last a.w a.h a.clip a.line c.frame_of-f.result (a.h * a.w) span.from span.end both.0 both.1 c.frame_of-f.ensures (rw c.view_of.ensures at c.columns_of-span.ensures) empty))

pub returns : goal.returns
returns c =
    let a = c.args in
    let span = c.columns_of-span.result in
    let clear = sym (rw c.in_ok-check_column.was at c.check_column.ensures) in
    let both = column-lawful a.w a.h a.clip a.line clear in
    let some : span.from < span.end = grind (arith, nat_tests) in
    rw clear
    (ap (λ r. Ok r)
    (is_last a.w a.h a.clip a.line c.frame_of-f.result (a.h * a.w) span.from span.end both.0 both.1 c.frame_of-f.ensures (rw c.view_of.ensures at c.columns_of-span.ensures) some))
