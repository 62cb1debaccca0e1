-- What a line is, by its letter.
use Rattle.std.specs.Prelude.{if◌then◌else◌, ℕ, ◌==◌, nat_lt}
use Rattle.cases.specs.declared.kind.Kind.{Kind}
use Rattle.cases.specs.declared.kind.Kind.TheVariants.{Empty, Item, Datapoints, Parameters, Site, Defaults, Start, Host, Mark, Value, Event, Reply, Damage, Link, Tables, Reading, Burst, Text, Remark}

abbrev pub kind_of : ℕ → Kind
kind_of b =
    if nat_lt b 0x61 then Text
    else if b == 0x65 then Empty
    else if b == 0x69 then Item
    else if b == 0x64 then Datapoints
    else if b == 0x70 then Parameters
    else if b == 0x76 then Site
    else if b == 0x77 then Defaults
    else if b == 0x73 then Start
    else if b == 0x68 then Host
    else if b == 0x6D then Mark
    else if b == 0x62 then Value
    else if b == 0x6E then Event
    else if b == 0x72 then Reply
    else if b == 0x78 then Damage
    else if b == 0x6C then Link
    else if b == 0x74 then Tables
    else if b == 0x67 then Reading
    else if b == 0x75 then Burst
    else Remark
