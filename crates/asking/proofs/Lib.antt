mod SaidOfRecords
