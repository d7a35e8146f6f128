mod Testing
