-- What a parameter of a type can be: a test for each type that a public function takes, so that a wrong program is refuted at an input that the function can
-- have. A struct passes where each of its fields does, an array where it has its length and each entry passes, an option, or a result, where what it
-- holds passes; a `bool`, and a choice without fields, always does. (checks/total compares each with the source's declaration.)
-- Assumes nothing.
use Rattle.std.specs.Prelude.{Option, None, Some, Result, Ok, Err}
use mathlib.Core.Bool.{Bool, true, ◌&&◌}
use mathlib.Core.List.{List, [], ◌∷◌}
use Prim.Native.Nat.{ℕ}
use lib.Dec.{eqb, ltb}
use lib.ListN.{length}
use Rattle.views.specs.declared.Sequence.{Sequence}
use Rattle.stamps.specs.declared.Stamp.{Stamp}
use Rattle.stamps.specs.declared.Pair.{Pair}
use Rattle.rows.specs.declared.Field.{Field}
use Rattle.rows.specs.declared.Field.TheVariants.{Flag, Byte, U16, U32, Zeros}
use Rattle.rules.specs.declared.Desk.{Desk}
use Rattle.rules.specs.declared.Step.{Step}
use Rattle.state.specs.declared.Notes.{Notes}
use Rattle.state.specs.declared.Generator.{Generator}
use Rattle.state.specs.declared.Transfer.{Transfer}
use Rattle.state.specs.declared.Head.{Head}
use Rattle.state.specs.declared.Part.{Part}
use Rattle.state.specs.declared.Body.{Body}
use Rattle.state.specs.declared.Message.{Message}
use Rattle.state.specs.declared.Sending.{Sending}
use Rattle.state.specs.declared.Sendings.{Sendings}
use Rattle.state.specs.declared.Event.{Event}
use Rattle.state.specs.declared.Event.TheVariants as events
use Rattle.state.specs.declared.Plan.{Plan}
use Rattle.sheet.specs.declared.Sheet.{Sheet}
use Rattle.sheet.specs.declared.reader.Reader.{Reader}
use Rattle.world.specs.declared.Answer.{Answer}
use Rattle.world.specs.declared.Report.{Report}
use Rattle.world.specs.declared.Report.TheVariants.{Nothing, Opened, ReadDone, WriteDone}

-- ---- numbers

abbrev pub in_u8 : ℕ → Bool
in_u8 n = ltb n 256

abbrev pub in_u16 : ℕ → Bool
in_u16 n = ltb n 65536

abbrev pub in_u32 : ℕ → Bool
in_u32 n = ltb n 4294967296

abbrev pub in_usize : ℕ → Bool
in_usize n = ltb n 18446744073709551616

-- ---- lists: each entry passes; an array of n, and a slice, whose length is a usize

abbrev pub every : {A : Type 0} → (A → Bool) → List A → Bool
every f [] = true
every f (x ∷ l) = f x && every f l

abbrev pub array : {A : Type 0} → ℕ → (A → Bool) → List A → Bool
array n f l = eqb (length l) n && every f l

abbrev pub slice : {A : Type 0} → (A → Bool) → List A → Bool
slice f l = in_usize (length l) && every f l

abbrev pub in_bytes : List ℕ → Bool
in_bytes l = slice in_u8 l

abbrev pub in_u32s : List ℕ → Bool
in_u32s l = slice in_u32 l

-- ---- of a type that stands for any: a program cannot look into it; what may be there or not; one of two

abbrev pub anything : {A : Type 0} → A → Bool
anything x = true

abbrev pub in_option : {A : Type 0} → (A → Bool) → Option A → Bool
in_option f None = true
in_option f (Some x) = f x

abbrev pub in_result : {A B : Type 0} → (A → Bool) → (B → Bool) → Result A B → Bool
in_result f g (Ok x) = f x
in_result f g (Err x) = g x

-- ---- structs

abbrev pub in_Sequence : Sequence → Bool
in_Sequence x = array 15 in_u16 x.views && in_usize x.len

abbrev pub in_Stamp : Stamp → Bool
in_Stamp x = in_u16 x.count && in_u8 x.desk

abbrev pub in_Pair : Pair → Bool
in_Pair x = in_Stamp x.stamp && in_u32 x.value

abbrev pub in_Field : Field → Bool
in_Field (Flag x0) = true
in_Field (Byte x0) = in_u8 x0
in_Field (U16 x0) = in_u16 x0
in_Field (U32 x0) = in_u32 x0
in_Field (Zeros x0) = in_u8 x0

abbrev pub in_Desk : Desk → Bool
in_Desk x = in_u16 x.view && in_u16 x.tries && in_Pair x.holds && in_u8 x.replied && in_Pair x.best

abbrev pub in_Step : Step → Bool
in_Step x = in_u8 x.kind && in_u8 x.id && in_u32 x.value

abbrev pub in_Notes : Notes → Bool
in_Notes x = array 8 in_Sequence x.of

abbrev pub in_Generator : Generator → Bool
in_Generator x =
    in_u16 x.view && in_Sequence x.own && in_Sequence x.converged && in_Sequence x.raised
    && in_Notes x.proposals && in_Notes x.convergences

abbrev pub in_Transfer : Transfer → Bool
in_Transfer x = in_u16 x.old && in_u16 x.new && in_Sequence x.sequence && in_u8 x.senders && in_Pair x.best && in_u16 x.gathered

abbrev pub in_Head : Head → Bool
in_Head x = in_u16 x.view && in_u16 x.known && in_u16 x.pending && in_Pair x.holds

abbrev pub in_Part : Part → Bool
in_Part x = in_Head x.head && in_option in_Generator x.generator && in_option in_Transfer x.transfer

abbrev pub in_Body : Body → Bool
in_Body x =
    in_u8 x.kind && in_u16 x.first && in_u16 x.second && in_u16 x.tries
    && in_Sequence x.sequence && in_Pair x.pair && in_u16 x.updates

abbrev pub in_Message : Message → Bool
in_Message x = in_u8 x.from && in_u8 x.to && in_Body x.body

abbrev pub in_Sending : Sending → Bool
in_Sending x = in_Body x.body && in_u16 x.receivers

abbrev pub in_Sendings : Sendings → Bool
in_Sendings x = array 2 in_Sending x.of

abbrev pub in_Event : Event → Bool
in_Event events.Nothing = true
in_Event (events.Opened x0) = in_u16 x0
in_Event (events.ReadDone x0) = in_Pair x0
in_Event (events.WriteDone x0) = in_Pair x0

abbrev pub in_Plan : {A : Type 0} → (A → Bool) → Plan A → Bool
in_Plan f x = f x.next && in_Sendings x.sends && in_Event x.event

abbrev pub in_Sheet : Sheet → Bool
in_Sheet x = in_u8 x.mask && in_usize x.steps

abbrev pub in_Reader : Reader → Bool
in_Reader x = in_bytes x.sheet.now && in_usize x.at

abbrev pub in_Report : Report → Bool
in_Report Nothing = true
in_Report (Opened relay view) = in_u8 relay && in_u16 view
in_Report (ReadDone desk pair) = in_u8 desk && in_Pair pair
in_Report (WriteDone desk pair) = in_u8 desk && in_Pair pair

abbrev pub in_Answer : Answer → Bool
in_Answer x = in_u8 x.number && in_Report x.report
