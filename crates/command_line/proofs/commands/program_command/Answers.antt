use Rattle.std.proofs.Common.{refl}
use Rattle.command_line.specs.Program.{apart, catalogue, certify, check, compare, describe, desk, explain, infinite, misere, play, present, series, show, solve, tail, value, verify}
use Rattle.command_line.proofs.commands.program_command.Goals as goal

pub returns : goal.returns
returns c =
    let one =
    c.with-program.ensures misere check c.misere_command.ensures c.check_command.ensures refl in
    let two = c.with-program-2.ensures _ solve one c.solve_command.ensures refl in
    let three = c.with-program-3.ensures _ series two c.series_command.ensures refl in
    let four = c.with-program-4.ensures _ show three c.show_command.ensures refl in
    let five = c.with-program-5.ensures _ describe four c.describe_command.ensures refl in
    let six = c.with-program-6.ensures _ play five c.play_command.ensures refl in
    let seven = c.with-program-7.ensures _ compare six c.compare_command.ensures refl in
    let eight = c.with-program-8.ensures _ certify seven c.certify_command.ensures refl in
    let nine = c.with-program-9.ensures _ explain eight c.explain_command.ensures refl in
    let ten = c.with-program-10.ensures _ present nine c.present_command.ensures refl in
    let eleven = c.with-program-11.ensures _ catalogue ten c.catalogue_command.ensures refl in
    let twelve = c.with-program-12.ensures _ desk eleven c.desk_command.ensures refl in
    let thirteen = c.with-program-13.ensures _ infinite twelve c.infinite_command.ensures refl in
    let fourteen = c.with-program-14.ensures _ tail thirteen c.tail_command.ensures refl in
    let fifteen = c.with-program-15.ensures _ verify fourteen c.verify_command.ensures refl in
    let sixteen = c.with-program-16.ensures _ value fifteen c.value_command.ensures refl in
    c.with.ensures _ apart sixteen c.apart_command.ensures refl
