mod SaidOfRecords
mod OneVerdict
