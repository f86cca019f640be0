-- Which heads of a dialect by roles are those of returns and jumps, and which never leave or never give.
use Rattle.std.specs.Prelude.{Bool, true, false}
use Rattle.std.specs.Option.{option_map_or}
use Rattle.pliron_core.specs.declared.attrs.Head.{Head}
use Rattle.pliron_dialect.specs.declared.form.Form.{Form}
use Rattle.pliron_dialect.specs.declared.form.Form.TheVariants.{Jumps, Chooses, Leaves, Stops, Acts, Names, Forks}
use Rattle.pliron_dialect.specs.Roles.{Tables, form_of}
use Rattle.pliron_dialect_calls.specs.CallTables.{CallTables}

abbrev pub is_leaving : Form → Bool
is_leaving Leaves = true
is_leaving _ = false

abbrev pub is_jumping : Form → Bool
is_jumping Jumps = true
is_jumping _ = false

-- it never leaves its region; what acts by its own table does as that says
abbrev pub is_staying : Form → Bool → Bool
is_staying Leaves own = false
is_staying (Acts says removes) own = own
is_staying Names own = own
is_staying (Forks says) own = own
is_staying _ own = true

-- it never gives results, so that nothing behind it in its block is run
abbrev pub is_closing : Form → Bool
is_closing Jumps = true
is_closing (Chooses counting) = true
is_closing Leaves = true
is_closing Stops = true
is_closing _ = false

abbrev pub returns_by : {K : Type 0} → Tables K → Head → Bool
returns_by t h = option_map_or (λ k. is_leaving (form_of (t.role_of k))) (t.kind_of h.kind) false

abbrev pub jumps_by : {K : Type 0} → Tables K → Head → Bool
jumps_by t h = option_map_or (λ k. is_jumping (form_of (t.role_of k))) (t.kind_of h.kind) false

abbrev pub stays_by : {K : Type 0} → Tables K → CallTables K → Head → Bool
stays_by t c h = option_map_or (λ k. is_staying (form_of (t.role_of k)) (c.stays k)) (t.kind_of h.kind) false

abbrev pub closes_by : {K : Type 0} → Tables K → Head → Bool
closes_by t h = option_map_or (λ k. is_closing (form_of (t.role_of k))) (t.kind_of h.kind) false
