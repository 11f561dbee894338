-- What the code's refusals and kinds of steps are, by document 01's numbers. Assumes nothing.
use Rattle.std.specs.Prelude.{ℕ, Result, Ok, Err, eqb, if◌then◌else◌}
use Rattle.rules.specs.Steps.{JOIN, LEAVE, TIMER, READ, WRITE, DELIVER, DROP, CRASH}
use Rattle.rules.specs.declared.Refusal.{Refusal}
use Rattle.rules.specs.declared.Refusal.TheVariants.{BadWorld, BadStep, Empty, Dead, NotNow, NotYet, Worn, NoRoom, BadSheet}
use Rattle.rules.specs.declared.StepKind.{StepKind}
use Rattle.rules.specs.declared.StepKind.TheVariants.{Join, Leave, Timer, Read, Write, Deliver, Drop, Crash}

-- the table of answers; 0 is "done"
abbrev pub number_of : Refusal → ℕ
number_of BadWorld = 1
number_of BadStep = 2
number_of Empty = 3
number_of Dead = 4
number_of NotNow = 5
number_of NotYet = 6
number_of Worn = 7
number_of NoRoom = 8
number_of BadSheet = 9

-- "1 JOIN relay, 2 LEAVE relay, 3 TIMER relay, 4 READ desk, 5 WRITE desk value, 6 DELIVER place, 7 DROP place, 8 CRASH who"
abbrev pub kind_number : StepKind → ℕ
kind_number Join = JOIN
kind_number Leave = LEAVE
kind_number Timer = TIMER
kind_number Read = READ
kind_number Write = WRITE
kind_number Deliver = DELIVER
kind_number Drop = DROP
kind_number Crash = CRASH

-- the kind that a number tells; of any other, BAD STEP: "kind [..] out of range"
unfoldable pub kind_told : ℕ → Result StepKind Refusal
kind_told n =
    if eqb n JOIN then Ok Join
    else if eqb n LEAVE then Ok Leave
    else if eqb n TIMER then Ok Timer
    else if eqb n READ then Ok Read
    else if eqb n WRITE then Ok Write
    else if eqb n DELIVER then Ok Deliver
    else if eqb n DROP then Ok Drop
    else if eqb n CRASH then Ok Crash
    else Err BadStep
